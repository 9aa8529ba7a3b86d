-- Little-endian numbers of two, four and eight bytes (FORMAT 1.1).
use Rattle.std.specs.Prelude.{ℕ, ◌+◌, ◌*◌, ◌/◌, ◌%◌, min, List, [], ◌∷◌, ◌++◌, get_or}

-- the number whose lowest byte stands at `at`
abbrev pub le16 : List ℕ → ℕ → ℕ
le16 s at = get_or s at 0 + get_or s (at + 1) 0 * 256

abbrev pub le32 : List ℕ → ℕ → ℕ
le32 s at = le16 s at + le16 s (at + 2) * 65536

abbrev pub le64 : List ℕ → ℕ → ℕ
le64 s at = le32 s at + le32 s (at + 4) * 4294967296

-- the bytes of a number, the lowest first
abbrev pub bytes16 : ℕ → List ℕ
bytes16 n = n % 256 ∷ n / 256 % 256 ∷ []

abbrev pub bytes32 : ℕ → List ℕ
bytes32 n = bytes16 (n % 65536) ++ bytes16 (n / 65536)

abbrev pub bytes64 : ℕ → List ℕ
bytes64 n = bytes32 (n % 4294967296) ++ bytes32 (n / 4294967296)

-- as a number of 16 bits: 65,535 for a larger one
abbrev pub short : ℕ → ℕ
short n = min n 65535
