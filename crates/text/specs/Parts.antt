-- The parts that a text begins with, said by how they are spelt and not by steps of a reader, and the draft that a text writes.
use Rattle.std.specs.Prelude.{◌≡◌, ℕ, ◌-◌, ◌<◌, ◌≤◌, true, false, ◌↔◌, List, [], ◌∷◌, ◌++◌, length, drop, Ok, decimal, Result}
use Rattle.std.specs.List.{AllByRecursion}
use Rattle.text.specs.declared.draft.Draft.{Draft}
use Rattle.text.specs.declared.fault.TextFault.{TextFault}
use Rattle.text.specs.declared.token.Kind.{Kind}
use Rattle.text.specs.declared.token.Kind.TheVariants.{Blank, Letter, Digit}
use Rattle.text.specs.Draft.{Formed}
use Rattle.text.specs.Grammar.{reading}
use Rattle.text.specs.Limits.{max_bytes, number_limit}
use Rattle.text.specs.Token.{Part, word, number, mark, end, is_of, is_mark}
use Rattle.text.specs.Write.{canonical}

-- every byte is of the kind
abbrev pub All : Kind → List ℕ → Type 0
All k bs = AllByRecursion (λ b. is_of k b ≡ true) bs

-- the bytes begin with none of the kind
abbrev pub Other : Kind → List ℕ → Type 0
Other k [] = Unit {0}
Other k (b ∷ bs) = is_of k b ≡ false

-- a word is spelt by its letters, a number by its digits with no needless 0, a mark by itself
abbrev pub spelling : Part → List ℕ
spelling (word w) = w
spelling (number n) = decimal n
spelling (mark c) = c ∷ []
spelling end = []

-- a text can have the part: a word has a letter and only letters, a number at most three digits; the end is no part of a text
abbrev pub Proper : Part → Type 0
Proper (word w) = (1 ≤ length w) × All Letter w
Proper (number n) = n < number_limit
Proper (mark c) = is_mark c ≡ true
Proper end = ⊥

-- the bytes behind the part do not carry it on
abbrev pub Stops : Part → List ℕ → Type 0
Stops (word w) rest = Other Letter rest
Stops (number n) rest = Other Digit rest
Stops (mark c) rest = Unit {0}
Stops end rest = Unit {0}

-- the bytes are blanks, the part, and then the rest
pub record Next (p : Part) (bs rest : List ℕ) : Type 0 where
  pub blanks : List ℕ
  pub blank : All Blank blanks
  pub proper : Proper p
  pub stops : Stops p rest
  pub is : bs ≡ blanks ++ (spelling p ++ rest)

-- the bytes begin with these parts, one after another, and behind the last of them the rest is left
abbrev pub Begins : List Part → List ℕ → List ℕ → Type 0
Begins [] bs rest = bs ≡ rest
Begins (p ∷ ps) bs rest = (more : List ℕ) × Next p bs more × Begins ps more rest

-- these are all parts of the bytes
abbrev pub HasParts : List ℕ → List Part → Type 0
HasParts bs ps = (rest : List ℕ) × Begins ps bs rest × All Blank rest

-- from one place of a text on stand just the parts that another text has, and the last of them ends at the other place
pub record PartsOf (other text : List ℕ) (from to : ℕ) : Type 0 where
  pub parts : List Part
  pub others : HasParts other parts
  pub within : to ≤ length text
  pub there : Begins parts (drop from text) (drop to text)

-- between the two places a text of no more bytes than a text may have writes the draft: it has the parts of the draft's canonical text
pub record Writes (text : List ℕ) (from : ℕ) (d : Draft) (to : ℕ) : Type 0 where
  pub few : length text ≤ max_bytes
  pub formed : Formed d
  pub parts : PartsOf (canonical d) text from to

-- the answer to a text is a draft and a place exactly where the text writes the draft up to that place
abbrev pub ReadsExactly : List ℕ → ℕ → Result (Draft × ℕ) TextFault → Type 0
ReadsExactly text from r = (d : Draft) (to : ℕ) → (r ≡ Ok (d, to)) ↔ Writes text from d to

-- the draft's canonical text reads as the draft whatever stands behind it, and takes all of it but the end of its last line
abbrev pub ReadsBack : Draft → Type 0
ReadsBack d = (behind : List ℕ) → length (canonical d ++ behind) ≤ max_bytes → reading (canonical d ++ behind) 0 ≡ Ok (d, length (canonical d) - 1)
