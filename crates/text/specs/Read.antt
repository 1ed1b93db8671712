-- What a section reader answers, by the grammar, and where it leaves the lexer.
use Rattle.std.specs.Prelude.{◌≡◌, ℕ, ◌<◌, ◌≤◌, List, length, take, Ok, Err, Result, slice_index_or}
use Rattle.text.specs.declared.fault.TextFault.{TextFault}
use Rattle.text.specs.declared.lexer.Lexer.{Lexer}
use Rattle.text.specs.Grammar.{padded}
use Rattle.text.specs.Lexer.{whole, left, Refuses}
use Rattle.text.specs.Token.{got, Reader}

-- a result is what d defines, and the lexer goes from l to m
abbrev pub Says : {A : Type 0} → Reader A → Lexer → Lexer → Result A TextFault → Type 0
Says d l m (Ok a) = (d (left l) ≡ got a (left m)) × (m.at ≤ length (whole l))
Says d l m (Err f) = Refuses (whole l) f (d (left l))

pub record Reads {A : Type 0} (d : Reader A) (l m : Lexer) (r : Result A TextFault) : Type 0 where
  pub same : m.text ≡ l.text
  pub says : Says d l m r

abbrev pub shown : {A B : Type 0} → (A → B) → Result A TextFault → Result B TextFault
shown f (Ok a) = Ok (f a)
shown f (Err e) = Err e

-- the first n places of an array hold values that P holds of, and the others hold d
pub record Filled {A : Type 0} (size : ℕ) (d : A) (P : A → Type 0) (n : ℕ) (xs : List A) : Type 0 where
  pub rest : xs ≡ padded size d (take n xs)
  pub each : (k : ℕ) → k < n → P (slice_index_or xs k d)
