-- Why a text is refused: it is too long, or it stops at the first part with which no draft's text goes on.
use Rattle.std.specs.Prelude.{◌≡◌, ℕ, ◌<◌, ◌≤◌, ◌⊎◌, ◌↔◌, List, [], ◌∷◌, ◌++◌, length, drop, Err, Result}
use Rattle.text.specs.declared.draft.Draft.{Draft}
use Rattle.text.specs.declared.fault.TextFault.{TextFault}
use Rattle.text.specs.declared.fault.TextFault.TheVariants.{TooLong, Malformed, Unexpected, OutOfRange, Trailing, BufferTooShort}
use Rattle.text.specs.declared.token.Kind.TheVariants.{Blank}
use Rattle.text.specs.Draft.{Formed}
use Rattle.text.specs.Limits.{max_bytes}
use Rattle.text.specs.Parts.{All, Other, Next, Begins, HasParts}
use Rattle.text.specs.Token.{Part, number}
use Rattle.text.specs.Write.{canonical}

-- some draft's canonical text begins with these parts and goes on with p
pub record GoesOn (ps : List Part) (p : Part) : Type 0 where
  pub draft : Draft
  pub formed : Formed draft
  pub later : List Part
  pub parts : HasParts (canonical draft) (ps ++ (p ∷ later))

-- from one place on the text begins with parts of a draft's text that has more of them, and behind them and blanks the next thing stands at the other place
pub record Stopped (text : List ℕ) (from at : ℕ) : Type 0 where
  pub few : length text ≤ max_bytes
  pub before : List Part
  pub rest : List ℕ
  pub begins : Begins before (drop from text) rest
  pub due : Part
  pub goes : GoesOn before due
  pub blanks : List ℕ
  pub blank : All Blank blanks
  pub place : rest ≡ blanks ++ drop at text
  pub first : Other Blank (drop at text)
  pub within : at ≤ length text

-- what stands there is no part, nor is it the end of the text
pub record NoPart (text : List ℕ) (at : ℕ) : Type 0 where
  pub some : drop at text ≡ [] → ⊥
  pub none : (p : Part) (more : List ℕ) → Next p (drop at text) more → ⊥

-- it is a number with which no draft's text goes on, while with another number one does
pub record OtherNumber (before : List Part) (text : List ℕ) (at : ℕ) : Type 0 where
  pub found : ℕ
  pub more : List ℕ
  pub is : Next (number found) (drop at text) more
  pub never : GoesOn before (number found) → ⊥
  pub other : ℕ
  pub goes : GoesOn before (number other)

-- it is a part with which no draft's text goes on, and if it is a number, none goes on with any number
pub record OtherPart (before : List Part) (text : List ℕ) (at : ℕ) : Type 0 where
  pub found : Part
  pub more : List ℕ
  pub is : Next found (drop at text) more
  pub never : GoesOn before found → ⊥
  pub no_number : (n m : ℕ) → found ≡ number n → GoesOn before (number m) → ⊥

-- the text, read from a place on, has the fault
abbrev pub Refused : List ℕ → ℕ → TextFault → Type 0
Refused text from TooLong = max_bytes < length text
Refused text from (Malformed at) = (s : Stopped text from at) × NoPart text at
Refused text from (Unexpected at) = (s : Stopped text from at) × ((drop at text ≡ []) ⊎ OtherPart s.before text at)
Refused text from (OutOfRange at) = (s : Stopped text from at) × OtherNumber s.before text at
Refused text from (Trailing at) = ⊥
Refused text from BufferTooShort = ⊥

-- the answer to a text is a fault exactly where the text has the fault
abbrev pub RefusesExactly : List ℕ → ℕ → Result (Draft × ℕ) TextFault → Type 0
RefusesExactly text from r = (f : TextFault) → (r ≡ Err f) ↔ Refused text from f
