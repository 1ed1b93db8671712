-- What an answer that is given only inside tells of its test.
use Rattle.std.specs.Prelude.{◌≡◌, Bool, true, false, Some, None}
use Rattle.std.proofs.Common.{arith}
use Rattle.table.specs.Meaning.{given_if}

pub given_true : {X : Type 0} (b : Bool) (x : X) → b ≡ true → given_if b x ≡ Some x
given_true b x e = grind arith

pub given_some : {X : Type 0} (b : Bool) (x y : X) → given_if b y ≡ Some x → (b ≡ true) × (y ≡ x)
given_some b x y e = grind arith

pub given_none : {X : Type 0} (b : Bool) (y : X) → given_if b y ≡ None → b ≡ false
given_none b y e = grind arith
