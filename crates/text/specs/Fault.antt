-- The number, the layer and the place of each fault of a text.
use Rattle.std.specs.Prelude.{ℕ, List, Some, None, codes, Option}
use Rattle.text.specs.declared.fault.TextFault.{TextFault}
use Rattle.text.specs.declared.fault.TextFault.TheVariants.{TooLong, Malformed, Unexpected, OutOfRange, Trailing, BufferTooShort}
use Rattle.text.specs.Limits.{max_bytes}

abbrev pub number_of : TextFault → ℕ
number_of TooLong = 10
number_of (Malformed at) = 11
number_of (Unexpected at) = 12
number_of (OutOfRange at) = 13
number_of (Trailing at) = 14
number_of BufferTooShort = 16

abbrev pub layer_of : TextFault → List ℕ
layer_of f = codes "text"

abbrev pub place_of : TextFault → Option ℕ
place_of TooLong = Some max_bytes
place_of (Malformed at) = Some at
place_of (Unexpected at) = Some at
place_of (OutOfRange at) = Some at
place_of (Trailing at) = Some at
place_of BufferTooShort = None
