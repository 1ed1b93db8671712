-- What a lexer has left, and what its next token is by the definition of parts.
use Rattle.std.specs.Prelude.{◌≡◌, ℕ, ◌≤◌, List, length, drop, Ok, Err, Result}
use Rattle.text.specs.declared.fault.TextFault.{TextFault}
use Rattle.text.specs.declared.fault.TextFault.TheVariants.{TooLong, Malformed, Unexpected, OutOfRange, Trailing, BufferTooShort}
use Rattle.text.specs.declared.lexer.Lexer.{Lexer}
use Rattle.text.specs.declared.token.Token.{Token}
use Rattle.text.specs.declared.token.Token.TheVariants.{Word, Number, Mark, End}
use Rattle.text.specs.Limits.{max_bytes}
use Rattle.text.specs.Token.{Part, word, number, mark, end, Got, got, no, skip, part}

abbrev pub part_of : Token → Part
part_of (Word w) = word w.now
part_of (Number n) = number n
part_of (Mark c) = mark c
part_of End = end

-- a fault without its place, and its place
abbrev pub fault_at : TextFault → ℕ → TextFault
fault_at TooLong p = TooLong
fault_at (Malformed q) p = Malformed p
fault_at (Unexpected q) p = Unexpected p
fault_at (OutOfRange q) p = OutOfRange p
fault_at (Trailing q) p = Trailing p
fault_at BufferTooShort p = BufferTooShort

abbrev pub byte_of : TextFault → ℕ
byte_of TooLong = max_bytes
byte_of (Malformed p) = p
byte_of (Unexpected p) = p
byte_of (OutOfRange p) = p
byte_of (Trailing p) = p
byte_of BufferTooShort = 0

abbrev pub whole : Lexer → List ℕ
whole l = l.text.now

abbrev pub left : Lexer → List ℕ
left l = drop l.at (whole l)

-- a fault f of a text is what a definition refuses with
abbrev pub Refuses : {A : Type 0} → List ℕ → TextFault → Got A → Type 0
Refuses t f g = (g ≡ no (fault_at f) (drop (byte_of f) t)) × (byte_of f ≤ length t)

-- the part after the blanks, and where it begins
abbrev pub Lexed : Lexer → Lexer → Result (Token × ℕ) TextFault → Type 0
Lexed l m (Ok t) = (part (skip (left l)) ≡ got (part_of t.0) (left m)) × (skip (left l) ≡ drop t.1 (whole l)) × (t.1 ≤ length (whole l)) × (m.at ≤ length (whole l))
Lexed l m (Err f) = Refuses (whole l) f (part (skip (left l)))
