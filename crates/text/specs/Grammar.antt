-- The grammar of a book's text, section by section, and the draft that a text writes.
use Rattle.std.specs.Prelude.{ℕ, zero, suc, ◌+◌, ◌-◌, Bool, true, false, cond, ◌&&◌, List, [], ◌∷◌, ◌++◌, length, drop, replicate, Some, None, Ok, Err, codes, Option, Result, ◌==◌, nat_le, nat_lt}
use Rattle.std.specs.Str.{bytes_eq}
use Rattle.text.specs.declared.draft.Draft.{Draft}
use Rattle.text.specs.declared.draft.End.{End}
use Rattle.text.specs.declared.draft.End.TheVariants.{Shut, Open}
use Rattle.text.specs.declared.draft.Guard.{Guard}
use Rattle.text.specs.declared.draft.High.{High}
use Rattle.text.specs.declared.draft.High.TheVariants.{At, Inf}
use Rattle.text.specs.declared.draft.Row.{Row}
use Rattle.text.specs.declared.draft.State.{State}
use Rattle.text.specs.declared.draft.State.TheVariants.{Stay, Hold}
use Rattle.text.specs.declared.fault.TextFault.{TextFault}
use Rattle.text.specs.declared.fault.TextFault.TheVariants.{TooLong, Unexpected, OutOfRange}
use Rattle.text.specs.declared.mark.Side.{Side}
use Rattle.text.specs.declared.mark.Side.TheVariants.{Low, High as HighSide}
use Rattle.text.specs.Draft.{no_row}
use Rattle.text.specs.Limits.{max_inputs, max_outputs, max_states, max_rows, max_days, max_bytes}
use Rattle.text.specs.Token.{Part, word, number, mark, end, Got, got, no, Reader, skip, part}

-- read d, then what k makes of it; a fault ends the reading
abbrev pub on : {A B : Type 0} → Got A → (A → Reader B) → Got B
on (got a rest) k = k a rest
on (no f from) k = no f from

infixl 20 ◌>>=◌
abbrev pub ◌>>=◌ : {A B : Type 0} → Reader A → (A → Reader B) → Reader B
◌>>=◌ d k bs = on (d bs) k

abbrev pub done : {A : Type 0} → A → Reader A
done a bs = got a bs

-- one part, which f takes, or refuses at the part's first byte
abbrev pub taken : {A : Type 0} → Result A (ℕ → TextFault) → List ℕ → Reader A
taken (Ok a) from rest = got a rest
taken (Err e) from rest = no e from

abbrev pub due : {A : Type 0} → (Part → Result A (ℕ → TextFault)) → Reader A
due f bs = on (part (skip bs)) (λ p. taken (f p) (skip bs))

-- a number from low on and below limit
abbrev pub as_number : ℕ → ℕ → Part → Result ℕ (ℕ → TextFault)
as_number low limit (word w) = Err Unexpected
as_number low limit (number n) = cond (nat_le low n && nat_lt n limit) (Ok n) (Err OutOfRange)
as_number low limit (mark c) = Err Unexpected
as_number low limit end = Err Unexpected

abbrev pub is_word : List ℕ → Part → Bool
is_word w (word v) = bytes_eq v w
is_word w (number n) = false
is_word w (mark c) = false
is_word w end = false

abbrev pub as_word : List ℕ → Part → Result Unit (ℕ → TextFault)
as_word w p = cond (is_word w p) (Ok tt) (Err Unexpected)

-- whether the state holds
abbrev pub as_holds : Part → Result Bool (ℕ → TextFault)
as_holds p = cond (is_word (codes "stay") p) (Ok false) (cond (is_word (codes "hold") p) (Ok true) (Err Unexpected))

-- the high end: a number, or none for inf
abbrev pub as_high : Part → Result (Option ℕ) (ℕ → TextFault)
as_high (word w) = cond (bytes_eq w (codes "inf")) (Ok None) (Err Unexpected)
as_high (number n) = cond (nat_le n max_days) (Ok (Some n)) (Err OutOfRange)
as_high (mark c) = Err Unexpected
as_high end = Err Unexpected

abbrev pub or_unexpected : {A : Type 0} → Option A → Result A (ℕ → TextFault)
or_unexpected (Some a) = Ok a
or_unexpected None = Err Unexpected

abbrev pub opens : ℕ → Option End
opens c = cond (c == 91) (Some Shut) (cond (c == 40) (Some Open) None)

abbrev pub closes : ℕ → Option End
closes c = cond (c == 93) (Some Shut) (cond (c == 41) (Some Open) None)

-- the end that a mark gives a guard on a side
abbrev pub ends : Side → ℕ → Option End
ends Low = opens
ends HighSide = closes

abbrev pub only : ℕ → ℕ → Option Unit
only d c = cond (c == d) (Some tt) None

abbrev pub as_mark : {A : Type 0} → (ℕ → Option A) → Part → Result A (ℕ → TextFault)
as_mark f (word w) = Err Unexpected
as_mark f (number n) = Err Unexpected
as_mark f (mark c) = or_unexpected (f c)
as_mark f end = Err Unexpected

abbrev pub number_in : ℕ → ℕ → Reader ℕ
number_in low limit = due (as_number low limit)

-- the head of a section and its count
abbrev pub section : List ℕ → ℕ → Reader ℕ
section w limit = do
  head ← due (as_word w)
  number_in 1 limit

-- k more of what d reads, behind those read already
abbrev pub many : {A : Type 0} → Reader A → ℕ → List A → Reader (List A)
many d zero xs = done xs
many d (suc k) xs = do
  x ← d
  many d k (xs ++ x ∷ [])

abbrev pub hold : ℕ → Reader State
hold n = do
  days ← number_in 1 (max_days + 1)
  target ← number_in 0 n
  done (Hold days target)

abbrev pub state : ℕ → Reader State
state n = do
  holds ← due as_holds
  cond holds (hold n) (done Stay)

-- only ) follows inf
abbrev pub closed : Option ℕ → Reader High
closed (Some n) = do
  e ← due (as_mark closes)
  done (At n e)
closed None = do
  close ← due (as_mark (only 41))
  done Inf

-- the high end of a guard, up to the mark that closes it
abbrev pub high_end : Reader High
high_end = do
  bound ← due as_high
  closed bound

abbrev pub guarded : Reader Guard
guarded = do
  e ← due (as_mark opens)
  low ← number_in 0 (max_days + 1)
  comma ← due (as_mark (only 44))
  bound ← due as_high
  high ← closed bound
  done (record { low = low; end = e; high = high })

abbrev pub row : ℕ → ℕ → ℕ → Reader Row
row inputs outputs states = do
  s ← number_in 0 states
  i ← number_in 0 inputs
  g ← guarded
  o ← number_in 0 outputs
  t ← number_in 0 states
  done (record { state = s; input = i; guard = g; output = o; next = t })

-- a list in an array of size places, the rest of them filled with d
abbrev pub padded : {A : Type 0} → ℕ → A → List A → List A
padded size d xs = xs ++ replicate (size - length xs) d

abbrev pub draft_of : ℕ → ℕ → ℕ → List State → ℕ → List Row → Draft
draft_of i o n ss m rs = record {
  inputs = i;
  outputs = o;
  states = record { count = n; all = padded max_states Stay ss };
  rows = record { count = m; all = padded max_rows no_row rs };
}

abbrev pub book : Reader Draft
book = do
  i ← section (codes "inputs") (max_inputs + 1)
  o ← section (codes "outputs") (max_outputs + 1)
  n ← section (codes "states") (max_states + 1)
  ss ← many (state n) n []
  m ← section (codes "rows") (max_rows + 1)
  rs ← many (row i o n) m []
  done (draft_of i o n ss m rs)

-- a place is how many bytes stand before it
abbrev pub placed : {A : Type 0} → List ℕ → Got A → Result (A × ℕ) TextFault
placed t (got a rest) = Ok (a, length t - length rest)
placed t (no f from) = Err (f (length t - length from))

-- the draft that begins at a place, and the place where its last part ends
unfoldable pub reading_from : List ℕ → ℕ → Result (Draft × ℕ) TextFault
reading_from t from = placed t (book (drop from t))

-- the draft that a text writes from a place on; a text of too many bytes writes none
abbrev pub reading : List ℕ → ℕ → Result (Draft × ℕ) TextFault
reading t from = cond (nat_lt max_bytes (length t)) (Err TooLong) (reading_from t from)
