-- A view's table: where it has no fault each entry is an output, the first entry that is none is its fault, and what the machine below
-- draws is an output.
use Rattle.std.proofs.Common.{◌≡◌, ℕ, ◌<◌, ◌≤◌, Bool, false, ◌&&◌, ltb, leb, List, length, get_or, Some, None, Ok, Err, Option, Result, sym, ap, subst, ◌∙◌, zero-add, arith}
use Rattle.std.specs.List.{position}
use Rattle.std.proofs.lemmas.Bool.{leb-false, le-leb, lt-leb, and_parts, ltb-true}
use Rattle.std.proofs.lemmas.List.{ext_get_or}
use Rattle.std.proofs.lemmas.List.FromFn.{length-range_with_len, get_or-range_with_len}
use Rattle.std.proofs.lemmas.List.Quantifiers.{position-Some}
use Rattle.std.proofs.lemmas.List.Sums.{fails_before_first}
use Rattle.text.specs.Limits.{max_outputs}
use Rattle.table.specs.declared.fault.TableFault.{TableFault}
use Rattle.table.specs.declared.fault.TableFault.TheVariants.{Output}
use Rattle.table.specs.First.{unless_fault}
use Rattle.table.specs.Meaning.{Meaning, Lawful, given_if}
use Rattle.table.specs.View.{AllOutputs, same_outputs, entry_fault, table_fault}
use Rattle.table.specs.Firsts.{first_at, first_none, first_all}
use Rattle.table.specs.GivenIf.{given_some, given_none}

pub faultless_outputs : (es : List ℕ) → table_fault es ≡ None → AllOutputs es
faultless_outputs es none k l = leb-false max_outputs (get_or es k 0) (given_none _ _ (first_none (entry_fault es) max_outputs none k l))

-- where no element passes
none_passes : (p : ℕ → Bool) (es : List ℕ) → position p es ≡ None → (k : ℕ) → k < length es → p (get_or es k 0) ≡ false
none_passes p es e k l = fails_before_first p es k 0 (grind arith)

-- the first entry that is no output is the fault
pub table_fault_at : (es : List ℕ) (k : ℕ) → length es ≡ max_outputs → position (leb max_outputs) es ≡ Some k → table_fault es ≡ Some (Output k)
table_fault_at es k l e =
    let p = position-Some (leb max_outputs) es k 0 e in
    first_at (entry_fault es) k max_outputs (Output k) (omega arith) (first_all (entry_fault es) k (λ j h. let n = p.2 j h in cc)) cc

pub table_fault_none : (es : List ℕ) → length es ≡ max_outputs → position (leb max_outputs) es ≡ None → table_fault es ≡ None
table_fault_none es l e = first_all (entry_fault es) max_outputs (λ k h. let n = none_passes (leb max_outputs) es e k (omega arith) in cc)

-- a fault that is not there
pub no_fault : (o : Option TableFault) → ◌≡◌ {A = Result (Unit {0}) TableFault} (unless_fault o tt) (Ok tt) → o ≡ None
no_fault o e = grind arith

-- a fault that is refused
pub some_fault : (o : Option TableFault) (f : TableFault) → ◌≡◌ {A = Result (Unit {0}) TableFault} (unless_fault o tt) (Err f) → o ≡ Some f
some_fault o f e = grind arith

-- a list that has each number at its own place
module _ (es : List ℕ) (each : (k : ℕ) → k < max_outputs → get_or es k 0 ≡ k) where
  pub each_at_itself : length es ≡ max_outputs → es ≡ same_outputs
  each_at_itself l =
      ext_get_or 0 es same_outputs (l ∙ sym (length-range_with_len 0 max_outputs))
      (λ k m. each k (omega arith) ∙ sym (get_or-range_with_len 0 max_outputs k 0 (omega arith) ∙ zero-add k))

pub entry_refused : (es : List ℕ) (k : ℕ) → max_outputs ≤ get_or es k 0 → entry_fault es k ≡ Some (Output k)
entry_refused es k l = ap (λ b. given_if b (Output k)) (le-leb _ _ l)

pub entry_passes : (es : List ℕ) (k : ℕ) → get_or es k 0 < max_outputs → entry_fault es k ≡ None
entry_passes es k l = ap (λ b. given_if b (Output k)) (lt-leb _ _ l)

-- the output of a take that was answered is below the limit
pub taken_small : (m : Meaning) → Lawful m → (s i next output : ℕ) → ◌≡◌ {A = Option (ℕ × ℕ)} (Some (next, output)) (given_if (ltb s m.count && ltb i m.inputs) (m.take s i)) → output < max_outputs
taken_small m law s i next output e =
    let g = given_some (ltb s m.count && ltb i m.inputs) (next, output) (m.take s i) (sym e) in
    let p = and_parts _ _ g.0 in
    subst (λ (x : ℕ × ℕ). x.1 < max_outputs) g.1 (law.output_in s i (ltb-true _ _ p.0) (ltb-true _ _ p.1))
