-- The draft that the section readers put together: what it reads as, and that its numbers lie in their ranges.
use Rattle.std.proofs.Common.{◌≡◌, ℕ, ◌+◌, ◌-◌, ◌<◌, ◌≤◌, List, [], length, get_or, take, replicate, Ok, codes, sym, refl, ap, ◌∙◌, subst, ⊎_elim, arith, length-append, length-take}
use lib.ListN.{get_or-replicate, length-replicate}
use Rattle.std.proofs.lemmas.List.{get_or-append_right, get_or_past}
use Rattle.std.proofs.lemmas.Bool.{cases_lt}
use Rattle.text.specs.declared.draft.Draft.{Draft}
use Rattle.text.specs.declared.draft.Row.{Row}
use Rattle.text.specs.declared.draft.State.{State}
use Rattle.text.specs.declared.draft.State.TheVariants.{Stay}
use Rattle.text.specs.declared.lexer.Lexer.{Lexer}
use Rattle.text.specs.Draft.{no_row, StateRanged, RowRanged, Ranged, Formed}
use Rattle.text.specs.Grammar.{on, ◌>>=◌, done, section, many, state, row, draft_of, book}
use Rattle.text.specs.Lexer.{whole}
use Rattle.text.specs.Limits.{max_inputs, max_outputs, max_states, max_rows}
use Rattle.text.specs.Read.{Reads, Filled}
use Rattle.text.specs.Token.{Got, Reader}

-- the parts of a draft as the readers give them
pub record Parts (i o n : ℕ) (kinds : List State) (m : ℕ) (lines : List Row) : Type 0 where
  pub inputs : (1 ≤ i) × (i < max_inputs + 1)
  pub outputs : (1 ≤ o) × (o < max_outputs + 1)
  pub states : (1 ≤ n) × (n < max_states + 1)
  pub rows : (1 ≤ m) × (m < max_rows + 1)
  pub kinds_filled : Filled max_states Stay (StateRanged n) n kinds
  pub lines_filled : Filled max_rows no_row (RowRanged i o n) m lines

abbrev pub made_of : ℕ → ℕ → ℕ → List State → ℕ → List Row → Draft
made_of i o n kinds m lines = record { inputs = i; outputs = o; states = record { count = n; all = kinds }; rows = record { count = m; all = lines } }

-- past the counted places of a filled array
padded_past : {A : Type 0} (size n k : ℕ) (d : A) (P : A → Type 0) (xs : List A) → n ≤ k → Filled size d P n xs → get_or xs k d ≡ d
padded_past size n k d P xs h filled =
    let short : length (take n xs) ≤ k = simp length-take (omega arith) in
    let there : get_or xs k d ≡ get_or (replicate (size - length (take n xs)) d) (k - length (take n xs)) d =
    ap (λ ys. get_or ys k d) filled.rest ∙ get_or-append_right (take n xs) (replicate (size - length (take n xs)) d) (length (take n xs)) k d refl short in
    there
    ∙ ⊎_elim
    (λ (lt : k - length (take n xs) < size - length (take n xs)). get_or-replicate _ _ d d lt)
    (λ (ge : size - length (take n xs) ≤ k - length (take n xs)). get_or_past (replicate (size - length (take n xs)) d) (k - length (take n xs)) d (simp length-replicate ge))
    (cases_lt (k - length (take n xs)) (size - length (take n xs)))

-- a filled array has all its places
filled_size : {A : Type 0} (size n : ℕ) (d : A) (P : A → Type 0) (xs : List A) → n ≤ size → Filled size d P n xs → length xs ≡ size
filled_size size n d P xs h filled =
    let front : length (take n xs) ≤ n = simp length-take (omega arith) in
    let all = ap length filled.rest ∙ length-append (take n xs) (replicate (size - length (take n xs)) d) in
    let rest = length-replicate (size - length (take n xs)) d in
    omega arith

module _ {i o n m : ℕ} {kinds : List State} {lines : List Row} (parts : Parts i o n kinds m lines) where
  pub ranged : Ranged (made_of i o n kinds m lines)
  ranged =
      let a = parts.inputs in
      let b = parts.outputs in
      let s = parts.states in
      let r = parts.rows in
      record {
        inputs = (a.0, omega arith, b.0, omega arith);
        counts = (s.0, omega arith, r.0, omega arith);
        states = parts.kinds_filled.each;
        named = λ k h. (parts.lines_filled.each k h).0;
        guards = λ k h. (parts.lines_filled.each k h).1;
        states_padded = λ k h. padded_past _ n k Stay _ kinds h parts.kinds_filled;
        rows_padded = λ k h. padded_past _ m k no_row _ lines h parts.lines_filled;
      }

  pub formed : Formed (made_of i o n kinds m lines)
  formed =
      let few = parts.states.1 in
      let short = parts.rows.1 in
      record {
        ranged = ranged;
        sized = (filled_size _ n Stay _ kinds (omega arith) parts.kinds_filled, filled_size _ m no_row _ lines (omega arith) parts.lines_filled);
      }

-- one thing read, then the next
reads_then : {A B : Type 0} (d : Reader A) (k : A → Reader B) {l m p : Lexer} {a : A} {b : B} → Reads d l m (Ok a) → Reads (k a) m p (Ok b) → Reads (d >>= k) l p (Ok b)
reads_then {A} {B} d k {l} {m} {p} f g = record {
  same = g.same ∙ f.same;
  says = (ap (λ (x : Got A). on x k) f.says.0 ∙ g.says.0, subst (λ t. p.at ≤ length t.now) f.same g.says.1);
}

reads_done : {A : Type 0} (l m : Lexer) (a : A) → m.text ≡ l.text → m.at ≤ length (whole l) → Reads (done a) m m (Ok a)
reads_done l m a same h = record { same = refl; says = (refl, subst (λ t. m.at ≤ length t.now) (sym same) h) }

module _ {i o n m : ℕ} {kinds : List State} {lines : List Row} (parts : Parts i o n kinds m lines) where
  draft_is : draft_of i o n (take n kinds) m (take m lines) ≡ made_of i o n kinds m lines
  draft_is = λ j. made_of i o n (sym parts.kinds_filled.rest j) m (sym parts.lines_filled.rest j)

  pub book_read : {l l1 l2 l3 l4 l5 l6 : Lexer}
      → Reads (section (codes "inputs") (max_inputs + 1)) l l1 (Ok i)
      → Reads (section (codes "outputs") (max_outputs + 1)) l1 l2 (Ok o)
      → Reads (section (codes "states") (max_states + 1)) l2 l3 (Ok n)
      → Reads (many (state n) n []) l3 l4 (Ok (take n kinds))
      → Reads (section (codes "rows") (max_rows + 1)) l4 l5 (Ok m)
      → Reads (many (row i o n) m []) l5 l6 (Ok (take m lines))
      → Reads book l l6 (Ok (made_of i o n kinds m lines))
  book_read {l} {l1} {l2} {l3} {l4} {l5} {l6} a b c d e f =
      subst (λ x. Reads book l l6 (Ok x)) draft_is
      (reads_then _ _ a (reads_then _ _ b (reads_then _ _ c (reads_then _ _ d (reads_then _ _ e (reads_then _ _ f (reads_done l5 l6 _ f.same f.says.1)))))))
