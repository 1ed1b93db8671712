-- The parts of a text: blanks, words, numbers and marks.
use Rattle.std.specs.Prelude.{ℕ, suc, ◌+◌, ◌-◌, ◌*◌, Bool, cond, ◌&&◌, ◌||◌, List, [], ◌∷◌, length, take, drop, Some, None, Option, ◌==◌, nat_le}
use Rattle.text.specs.declared.fault.TextFault.{TextFault}
use Rattle.text.specs.declared.fault.TextFault.TheVariants.{Malformed}
use Rattle.text.specs.declared.token.Kind.{Kind}
use Rattle.text.specs.declared.token.Kind.TheVariants.{Blank, Letter, Digit}

abbrev pub is_of : Kind → ℕ → Bool
is_of Blank b = b == 32 || b == 10
is_of Letter b = nat_le 97 b && nat_le b 122
is_of Digit b = nat_le 48 b && nat_le b 57

-- [ ( ] ) and the comma
abbrev pub is_mark : ℕ → Bool
is_mark b = b == 91 || (b == 40 || (b == 93 || (b == 41 || b == 44)))

-- how long the longest run of a kind is that the bytes begin with
abbrev pub run : Kind → List ℕ → ℕ
run k [] = 0
run k (b ∷ bs) = cond (is_of k b) (suc (run k bs)) 0

-- the number that one to three digits write, with no needless 0 before it
abbrev pub numeral : List ℕ → Option ℕ
numeral [] = None
numeral (a ∷ []) = Some (a - 48)
numeral (a ∷ b ∷ []) = cond (a == 48) None (Some ((a - 48) * 10 + (b - 48)))
numeral (a ∷ b ∷ c ∷ []) = cond (a == 48) None (Some ((a - 48) * 100 + (b - 48) * 10 + (c - 48)))
numeral (a ∷ b ∷ c ∷ d ∷ ds) = None

pub data Part : Type 0 where
  word : List ℕ → Part
  number : ℕ → Part
  mark : ℕ → Part
  end : Part

-- what reading something gives: the thing and the bytes left, or a fault that wants its place and the bytes from that place on
pub data Got (A : Type 0) : Type 0 where
  got : A → List ℕ → Got A
  no : (ℕ → TextFault) → List ℕ → Got A

abbrev pub Reader : Type 0 → Type 0
Reader A = List ℕ → Got A

-- the bytes from the first that is no blank
abbrev pub skip : List ℕ → List ℕ
skip bs = drop (run Blank bs) bs

abbrev pub numbered : Option ℕ → List ℕ → List ℕ → Got Part
numbered (Some n) from rest = got (number n) rest
numbered None from rest = no Malformed from

-- the part that the bytes begin with
abbrev pub part : Reader Part
part [] = got end []
part (b ∷ bs) =
    let w : ℕ = run Letter (b ∷ bs) in
    let n : ℕ = run Digit (b ∷ bs) in
    cond (is_of Letter b) (got (word (take w (b ∷ bs))) (drop w (b ∷ bs)))
    (cond (is_of Digit b) (numbered (numeral (take n (b ∷ bs))) (b ∷ bs) (drop n (b ∷ bs)))
    (cond (is_mark b) (got (mark b) bs) (no Malformed (b ∷ bs))))

-- the place of the first part from a place on, if there is one
abbrev pub place_in : List ℕ → List ℕ → Option ℕ
place_in t [] = None
place_in t (b ∷ bs) = Some (length t - length (b ∷ bs))

abbrev pub first_part : List ℕ → ℕ → Option ℕ
first_part t from = place_in t (skip (drop from t))
