-- A place in a text, from what is left at it.
use Rattle.std.proofs.Common.{◌≡◌, ℕ, ◌-◌, ◌≤◌, List, length, drop, Ok, Err, sym, refl, ap, ◌∙◌, subst, arith, length-drop}
use Rattle.text.specs.declared.draft.Draft.{Draft}
use Rattle.text.specs.declared.fault.TextFault.{TextFault}
use Rattle.text.specs.declared.fault.TextFault.TheVariants.{TooLong, Malformed, Unexpected, OutOfRange, Trailing, BufferTooShort}
use Rattle.text.specs.declared.lexer.Lexer.{Lexer}
use Rattle.text.specs.Token.{got, no}
use Rattle.text.specs.Grammar.{book, placed, reading_from}
use Rattle.text.specs.Lexer.{whole, left, fault_at, byte_of}
use Rattle.text.specs.Read.{Reads}

before : (p : ℕ) (t : List ℕ) → p ≤ length t → length t - length (drop p t) ≡ p
before p t h = simp length-drop (omega arith)

refound : (f : TextFault) → fault_at f (byte_of f) ≡ f
refound TooLong = refl
refound (Malformed p) = refl
refound (Unexpected p) = refl
refound (OutOfRange p) = refl
refound (Trailing p) = refl
refound BufferTooShort = refl

module _ (t : List ℕ) (from : ℕ) (l m : Lexer) (is : whole l ≡ t) (at : l.at ≡ from) where
  start : left l ≡ drop from t
  start = λ i. drop (at i) (is i)

  pub read_ok : (d : Draft) → Reads book l m (Ok d) → Ok (d, m.at) ≡ reading_from t from
  unfolding reading_from
  read_ok d h =
      let rest : left m ≡ drop m.at t = ap (λ x. drop m.at x.now) h.same ∙ ap (drop m.at) is in
      sym (ap (λ b. placed t (book b)) (sym start) ∙ ap (placed t) (h.says.0 ∙ ap (got d) rest) ∙ ap (λ n. Ok (d, n)) (before m.at t (subst (λ x. m.at ≤ length x) is h.says.1)))

  pub read_err : (f : TextFault) → Reads book l m (Err f) → Err f ≡ reading_from t from
  unfolding reading_from
  read_err f h =
      sym (ap (λ b. placed t (book b)) (sym start) ∙ ap (placed t) (h.says.0 ∙ ap (λ x. no (fault_at f) (drop (byte_of f) x)) is) ∙ ap (λ n. Err (fault_at f n)) (before (byte_of f) t (subst (λ x. byte_of f ≤ length x) is h.says.1)) ∙ ap Err (refound f))
