-- Number, body and record of each refusal (FORMAT 2.2, 6.1); what an answer says in numbers (FORMAT 6.2).
use Rattle.std.specs.Prelude.{ℕ, List, [], ◌∷◌, Result, Ok, Err}
use Rattle.errors.specs.declared.NotThere.{NotThere}
use Rattle.errors.specs.declared.CallError.{CallError}
use Rattle.errors.specs.declared.CallError.TheVariants.{Unread, Refused}
use Rattle.errors.specs.declared.WireError.{WireError}
use Rattle.errors.specs.declared.WireError.TheVariants.{EmptyWire, NotClosedWire, NotSimpleWire}
use Rattle.errors.specs.declared.Refusal.{Refusal}
use Rattle.errors.specs.declared.Refusal.TheVariants.{Layout, Limit, Unnamed, Span, SameVertex, Wire}

abbrev pub wire_number : WireError → ℕ
wire_number EmptyWire = 6
wire_number NotClosedWire = 7
wire_number NotSimpleWire = 8

abbrev pub number : Refusal → ℕ
number (Layout b) = 1
number (Limit b) = 2
number (Unnamed b k) = 3
number (Span k) = 4
number (SameVertex k) = 5
number (Wire k e) = wire_number e

-- edges are body 1, wires body 3
abbrev pub body : Refusal → ℕ
body (Layout b) = b
body (Limit b) = b
body (Unnamed b k) = b
body (Span k) = 1
body (SameVertex k) = 1
body (Wire k e) = 3

-- record 0 for 1 and 2
abbrev pub record_number : Refusal → ℕ
record_number (Layout b) = 0
record_number (Limit b) = 0
record_number (Unnamed b k) = k
record_number (Span k) = k
record_number (SameVertex k) = k
record_number (Wire k e) = k

-- ---- an answer in numbers: how the call ended (0 done, 1 refused by the reading checks, 2 refused by the call itself), the refusal's number, 0 if done, and the values
pub record Reply : Type 0 where
  pub outcome : ℕ
  pub number : ℕ
  pub values : List ℕ

abbrev pub done : List ℕ → Reply
done values = record { outcome = 0; number = 0; values = values }

-- with body and record
abbrev pub unread : Refusal → Reply
unread f = record { outcome = 1; number = number f; values = body f ∷ record_number f ∷ [] }

abbrev pub refused : ℕ → List ℕ → Reply
refused n values = record { outcome = 2; number = n; values = values }

-- the reading checks
abbrev pub check_reply : Result Unit Refusal → Reply
check_reply (Ok x) = done []
check_reply (Err f) = unread f

-- an answer of a call: what is done, with its values; the reading checks; the call's own refusal, with number and values
abbrev pub call_reply : {T E : Type 0} → (T → List ℕ) → (E → Reply) → Result T (CallError E) → Reply
call_reply values own (Ok x) = done (values x)
call_reply values own (Err (Unread f)) = unread f
call_reply values own (Err (Refused e)) = own e

abbrev pub not_there : NotThere
not_there = record {}

-- 3
abbrev pub not_there_reply : NotThere → Reply
not_there_reply e = refused 3 []
