-- Whether the system told twice of one file, which was not changed in between.
use Rattle.std.specs.Prelude.{Bool, ◌&&◌, eqb}
use Rattle.std.specs.Ordering.{int_eq}
use Rattle.replace.specs.declared.status.Found.{Found}
use Rattle.replace.specs.declared.status.Identity.{Identity}
use Rattle.replace.specs.declared.status.Time.{Time}

abbrev pub same_time : Time → Time → Bool
same_time a b = int_eq a.seconds b.seconds && int_eq a.nanoseconds b.nanoseconds

-- its device and its number there, its size, when its bytes last changed and when anything of it did
abbrev pub same_identity : Identity → Identity → Bool
same_identity a b =
    eqb a.device b.device && eqb a.number b.number && eqb a.size b.size && same_time a.modified b.modified
    && same_time a.changed b.changed

abbrev pub same_file : Found → Found → Bool
same_file a b = same_identity a.identity b.identity
