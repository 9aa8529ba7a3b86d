-- Asked for an outline: where its uses stand in the use list (FORMAT 1.8).
use Rattle.std.specs.Prelude.{ℕ, List, [], ◌∷◌, Result, Ok, Err, ltb, get_or, length, take}
use Rattle.errors.specs.Numbers.{Reply, call_reply, not_there, not_there_reply}
use Rattle.errors.specs.declared.CallError.{CallError}
use Rattle.errors.specs.declared.CallError.TheVariants.{Refused, Unread}
use Rattle.errors.specs.declared.NotThere.{NotThere}
use Rattle.errors.specs.declared.Refusal.{Refusal}
use Rattle.lists.specs.Lists.{pick, sum}
use Rattle.pattern.specs.Checks.{pattern_faults}
use Rattle.pattern.specs.Contents.{Content, Pattern, content}

-- the reading checks first, then 3; a wire's uses begin where those of the wires before it end
abbrev pub place_of : List Refusal → Content → ℕ → Result (ℕ × ℕ) (CallError NotThere)
place_of (f ∷ fs) c w = Err (Unread f)
place_of [] c w = pick (ltb w (length c.wires)) (Ok (sum (take w c.wires), get_or c.wires w 0)) (Err (Refused not_there))

abbrev pub wire_place : Pattern → ℕ → Result (ℕ × ℕ) (CallError NotThere)
wire_place p w = place_of (pattern_faults p) (content p) w

-- number and values: where the uses begin and how many they are; 3 alone for a wire that does not exist
abbrev pub place_reply : Result (ℕ × ℕ) (CallError NotThere) → Reply
place_reply r = call_reply (λ p. p.0 ∷ p.1 ∷ []) not_there_reply r
