-- What a buffer holds after bytes were put into it at a place.
use Rattle.std.specs.Prelude.{◌≡◌, ℕ, ◌+◌, ◌<◌, ◌≤◌, List, ◌++◌, length, take, drop}

-- the buffer o became p: before the place `at` it is as it was, then come the bytes, which end at `end`, and then it is as it was
pub record Puts (o : List ℕ) (at : ℕ) (p : List ℕ) (end : ℕ) (bytes : List ℕ) : Type 0 where
  pub front : take end p ≡ take at o ++ bytes
  pub long : end ≡ at + length bytes
  pub rest : drop end p ≡ drop end o

-- bytes that find no room leave the buffer and the place
pub record PutsIf (o : List ℕ) (at : ℕ) (p : List ℕ) (end : ℕ) (bytes : List ℕ) : Type 0 where
  pub room : at + length bytes ≤ length o → Puts o at p end bytes
  pub none : length o < at + length bytes → (p ≡ o) × (end ≡ at)
