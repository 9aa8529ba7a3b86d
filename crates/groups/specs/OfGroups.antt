-- What contracts say of groups, which definitions take as lists. Cited by inner contracts.
use Rattle.std.specs.Prelude.{List, ◌≡◌}
use Rattle.groups.specs.declared.Groups.{Groups}
use Rattle.groups.specs.Forest.{joined_all, trees}
use Rattle.groups.specs.Groups.{Link}

-- the groups after the links, in sequence
abbrev pub Joined : List Link → Groups → Groups → Type 0
Joined L before after =
    (after.parents ≡ (joined_all (trees before.parents before.sizes) L).parents)
    × (after.sizes ≡ (joined_all (trees before.parents before.sizes) L).sizes)
    × (after.count ≡ before.count)
