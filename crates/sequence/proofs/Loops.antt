-- The loops: threading the members, writing one group, writing all.
use Prim.Native.Nat.{◌+◌, ◌-◌, ◌<◌, ◌≤◌, suc, ℕ}
use mathlib.Core.Bool.{false, true}
use mathlib.Core.List.{List, [], ◌++◌, ◌∷◌, append-nil, map, map-append}
use mathlib.Core.Logic.{⊎_elim}
use mathlib.Core.Path.{◌∙◌, ◌≡◌, ap, refl, sym}
use native.Mathlib.Numerals.{add-one}
use native.Mathlib.Omega.{arith}
use lib.Dec.{eqb, ltb}
use lib.ListN.{get_or-eq_default, get_or-map, drop, get_or, get_or-replicate, length, length-append, length-map, length-replicate, length-set, replicate, set, take}
use lib.Seq.{drop-cons, drop-length, get_or-set_other, get_or-set_same, length-sets, sets, take_all}
use borrow.Author.Tests.{eqb-false, eqb-true, ltb-false, ltb-true}
use Rattle.lists.proofs.Laws.{cases, flat_append}
use Rattle.lists.proofs.Sets.{sets_next, sets_then}
use Rattle.lists.specs.Lists.{flat, has, only, tabulate}
use Rattle.sequence.proofs.Firsts.{first_room, group_at, groups_are, groups_few, is_first, members_all, up_first, up_other, up_to}
use Rattle.sequence.proofs.Only.{flat_map}
use Rattle.sequence.proofs.Places.{after_place, first_place, not_first_place, placed}
use Rattle.sequence.specs.Keys.{Bare, Heads, Keyed, Nexts, Writable, key_groups, members_of, named, places}

-- ---- members threaded from the last to member i
pub record Threading (keys next₀ head₀ next head : List ℕ) (i : ℕ) : Type 0 where
  pub bare : Bare keys next₀ head₀
  pub low : i ≤ length keys
  pub next_long : length next ≡ length next₀
  pub head_long : length head ≡ length head₀
  pub heads : (x : ℕ) → x < length head₀ → get_or head x 0 ≡ get_or (places x (drop i keys) i) 0 (length keys)
  pub nexts : (k : ℕ) → i ≤ k → k < length keys → get_or next k 0 ≡ get_or (places (get_or keys k 0) (drop (suc k) keys) (suc k)) 0 (length keys)

-- arrays as they are before the threading
pub fresh : (keys names out lens : List ℕ) → Keyed keys names out lens → Bare keys (replicate 512 0) (replicate 1536 (length keys))
fresh keys names out lens k = record {
  few = k.few;
  room = omega (arith, k.few, length-replicate {A = ℕ} 512 0);
  low = λ i h. omega (arith, k.low i h, length-replicate {A = ℕ} 1536 (length keys));
  none = λ x h. get_or-replicate {A = ℕ} 1536 x (length keys) 0 (omega (arith, length-replicate {A = ℕ} 1536 (length keys)));
}

module _ (keys next₀ head₀ : List ℕ) where
  pub threading_start : Bare keys next₀ head₀ → Threading keys next₀ head₀ next₀ head₀ (length keys)
  unfolding places
  threading_start b = record {
    bare = b;
    low = omega arith;
    next_long = refl;
    head_long = refl;
    heads = λ x h. rw (drop-length keys) (b.none x h);
    nexts = λ k h l. absurd (omega arith);
  }

  module _ (next head : List ℕ) where
    -- member i before those from suc i on
    thread_one : (i : ℕ) → i < length keys → Threading keys next₀ head₀ next head (suc i)
        → Threading keys next₀ head₀ (set next i (get_or head (get_or keys i 0) 0)) (set head (get_or keys i 0) i) i
    unfolding places
    thread_one i h s =
        let x₀ = get_or keys i 0 in
        let inside : x₀ < length head = omega (arith, s.bare.low i h, s.head_long) in
        record {
          bare = s.bare;
          low = omega arith;
          next_long = length-set next i (get_or head x₀ 0) ∙ s.next_long;
          head_long = length-set head x₀ i ∙ s.head_long;
          heads = λ x l. rw (drop-cons keys i 0 h)
              (⊎_elim
              (λ (e : eqb x x₀ ≡ true). let o : x ≡ x₀ = eqb-true x x₀ e in rw e (ap (λ (y : ℕ). get_or (set head x₀ i) y 0) o ∙ get_or-set_same head x₀ i 0 inside))
              (λ (e : eqb x x₀ ≡ false). rw (e, get_or-set_other head x₀ x i 0 (eqb-false x x₀ e)) (s.heads x l))
              (cases (eqb x x₀)));
          nexts = λ k l o. ⊎_elim
              (λ (e : eqb k i ≡ true). rw (eqb-true k i e) (get_or-set_same next i (get_or head x₀ 0) 0 (omega (arith, s.next_long, s.bare.room)) ∙ s.heads x₀ (s.bare.low i h)))
              (λ (e : eqb k i ≡ false). rw (get_or-set_other next i k (get_or head x₀ 0) 0 (eqb-false k i e)) (s.nexts k (omega (arith, eqb-false k i e)) o))
              (cases (eqb k i));
        }

    -- after i turns
    module _ (i : ℕ) (s : Threading keys next₀ head₀ next head i) where
      pub threading_key : (k j : ℕ) → k ≡ get_or keys j 0 → j < length keys → k < length head
      threading_key k j e h = omega (arith, e, s.bare.low j h, s.head_long)

      pub threading_next : 0 < i → (k : ℕ) → k ≡ get_or keys (i - 1) 0 → Threading keys next₀ head₀ (set next (i - 1) (get_or head k 0)) (set head k (i - 1)) (i - 1)
      threading_next h k e =
          let from : i ≡ suc (i - 1) = omega arith in
          rw e (thread_one (i - 1) (omega (arith, s.low)) (rw from at s))

      module _ (h : i ≤ 0) where
        all : i ≡ 0
        all = omega arith

        pub threading_heads : Heads keys head
        threading_heads x l = rw all at (s.heads x (omega (arith, s.head_long)))

        pub threading_nexts : Nexts keys next
        threading_nexts k l = s.nexts k (omega (arith, all)) l

-- ---- one group written from `at` on: m members are written, and j is the next
pub record Following (keys names next : List ℕ) (i : ℕ) (out₀ : List ℕ) (at : ℕ) (out : List ℕ) (to j : ℕ) : Type 0 where
  pub start : Writable keys names next i out₀ at
  pub m : ℕ
  pub low : m ≤ length (group_at keys i)
  pub here : j ≡ get_or (group_at keys i) m (length keys)
  pub place : to ≡ at + m
  pub is : out ≡ sets out₀ at (take m (named names (group_at keys i)))

module _ (keys names next : List ℕ) (i : ℕ) (out₀ : List ℕ) (at : ℕ) where
  pub following_start : Writable keys names next i out₀ at → Following keys names next i out₀ at out₀ at i
  following_start w = record { start = w; m = 0; low = omega arith; here = sym w.first; place = omega arith; is = refl }

  module _ (out : List ℕ) (to j : ℕ) (s : Following keys names next i out₀ at out to j) where
    pub following_long : length out ≡ length out₀
    following_long = ap length s.is ∙ length-sets out₀ at (take s.m (named names (group_at keys i)))

    -- a member is left exactly if j is one
    pub following_left : j < length keys → s.m < length (group_at keys i)
    following_left h =
        let g = group_at keys i in
        ⊎_elim
        (λ e. ltb-true s.m (length g) e)
        (λ e. absurd (omega (arith, s.here, get_or-eq_default g (length keys) (ltb-false s.m (length g) e))))
        (cases (ltb s.m (length g)))

    pub following_room : j < length keys → to < length out
    following_room h = omega (arith, following_left h, s.place, s.start.room, following_long)

    pub following_next : j < length keys → (v j' : ℕ) → v ≡ get_or names j 0 → j' ≡ get_or next j 0 → Following keys names next i out₀ at (set out to v) (to + 1) j'
    following_next h v j' e f =
        let g = group_at keys i in
        let left = following_left h in
        let z : 0 + j ≡ j = omega arith in
        let after = after_place (get_or keys i 0) keys 0 s.m j (length keys) left (sym s.here ∙ sym z) in
        let o : 0 + suc j ≡ suc j = omega arith in
        let member : v ≡ get_or (named names g) s.m (get_or names (length keys) 0) =
        e ∙ ap (λ (k : ℕ). get_or names k 0) s.here ∙ sym (get_or-map (λ (k : ℕ). get_or names k 0) g s.m (length keys)) in
        record {
          start = s.start;
          m = s.m + 1;
          low = omega arith;
          here = f ∙ s.start.nexts j h ∙ rw (o, ← add-one s.m) at after.1;
          place = omega (arith, s.place);
          is = rw (s.is, s.place, member)
              (sets_next out₀ at (named names g) s.m (get_or names (length keys) 0) (omega (arith, left, length-map g (λ (k : ℕ). get_or names k 0))));
        }

    pub following_less : j < length keys → at + length (group_at keys i) - (to + 1) < at + length (group_at keys i) - to
    following_less h = omega (arith, following_left h, s.place)

    module _ (h : length keys ≤ j) where
      ended : s.m ≡ length (group_at keys i)
      ended =
          let g = group_at keys i in
          ⊎_elim
          (λ e. absurd (omega (arith, h, s.here, (placed (get_or keys i 0) keys 0 s.m (length keys) (ltb-true s.m (length g) e)).1)))
          (λ e. omega (arith, ltb-false s.m (length g) e, s.low))
          (cases (ltb s.m (length g)))

      pub following_out : out ≡ sets out₀ at (named names (group_at keys i))
      following_out =
          let g = named names (group_at keys i) in
          s.is ∙ ap (sets out₀ at) (take_all s.m g (omega (arith, ended, length-map (group_at keys i) (λ (k : ℕ). get_or names k 0))))

      pub following_end : to ≡ at + length (group_at keys i)
      following_end = omega (arith, s.place, ended)

-- ---- all groups: those that begin before member i are written
abbrev named_to : List ℕ → List ℕ → ℕ → List (List ℕ)
named_to names keys i = map (named names) (up_to keys i)

pub record Placing (keys names next head out₀ lens₀ out lens : List ℕ) (at count i : ℕ) : Type 0 where
  pub keyed : Keyed keys names out₀ lens₀
  pub linked : length keys ≤ length next
  pub wide : length head ≡ 1536
  pub heads : Heads keys head
  pub nexts : Nexts keys next
  pub low : i ≤ length keys
  pub written : out ≡ sets out₀ 0 (flat (named_to names keys i))
  pub lengths : lens ≡ sets lens₀ 0 (map length (named_to names keys i))
  pub place : at ≡ length (flat (named_to names keys i))
  pub number : count ≡ length (named_to names keys i)

named_long : (names keys : List ℕ) (i : ℕ) → length (flat (named_to names keys i)) ≡ length (flat (up_to keys i))
named_long names keys i =
    ap length (flat_map (λ (k : ℕ). get_or names k 0) (up_to keys i)) ∙ length-map (flat (up_to keys i)) (λ (k : ℕ). get_or names k 0)

named_count : (names keys : List ℕ) (i : ℕ) → length (named_to names keys i) ≡ length (up_to keys i)
named_count names keys i = length-map (up_to keys i) (named names)

-- what the definition gives
pub key_groups_lem : (names keys : List ℕ) → named_to names keys (length keys) ≡ key_groups names keys
key_groups_lem names keys = ap (map (named names)) (sym (groups_are keys))

pub key_groups_long : (names keys : List ℕ) → length (flat (key_groups names keys)) ≡ length keys
key_groups_long names keys =
    sym (ap (λ (r : List (List ℕ)). length (flat r)) (key_groups_lem names keys)) ∙ named_long names keys (length keys) ∙ members_all keys

pub key_groups_few : (names keys : List ℕ) → length (key_groups names keys) ≤ length keys
key_groups_few names keys =
    omega (arith, ap length (key_groups_lem names keys), named_count names keys (length keys), groups_few keys (length keys))

module _ (keys names next head out₀ lens₀ : List ℕ) where
  pub placing_start : Keyed keys names out₀ lens₀ → length head ≡ 1536 → length keys ≤ length next → Heads keys head → Nexts keys next
      → Placing keys names next head out₀ lens₀ out₀ lens₀ 0 0 0
  unfolding flat only tabulate
  placing_start k w l h n = record {
    keyed = k;
    linked = l;
    wide = w;
    heads = h;
    nexts = n;
    low = omega arith;
    written = refl;
    lengths = refl;
    place = refl;
    number = refl;
  }

  module _ (out lens : List ℕ) (at count i : ℕ) (s : Placing keys names next head out₀ lens₀ out lens at count i) where
    pub placing_out : length out ≡ length out₀
    placing_out = ap length s.written ∙ length-sets out₀ 0 (flat (named_to names keys i))

    pub placing_lens : length lens ≡ length lens₀
    placing_lens = ap length s.lengths ∙ length-sets lens₀ 0 (map length (named_to names keys i))

    pub placing_few : count ≤ 512
    placing_few = omega (arith, s.number, named_count names keys i, groups_few keys i, s.low, s.keyed.few)

    -- k is the key of member i, t the first member with that key
    module _ (h : i < length keys) (k : ℕ) (is_key : k ≡ get_or keys i 0) where
      pub placing_key : k < length head
      placing_key = omega (arith, is_key, s.keyed.low i h, s.wide)

      module _ (t : ℕ) (is-head : t ≡ get_or head k 0) where
        head_is : t ≡ get_or (group_at keys i) 0 (length keys)
        head_is = is-head ∙ s.heads k placing_key ∙ ap (λ (x : ℕ). get_or (members_of keys x) 0 (length keys)) is_key

        begins : t ≡ i → is_first keys i ≡ true
        begins e =
            let x = get_or keys i 0 in
            ⊎_elim
            (λ (o : has x (take i keys) ≡ true). absurd (omega (arith, e, head_is, not_first_place x keys 0 i (length keys) o)))
            (λ (o : has x (take i keys) ≡ false). rw o)
            (cases (has x (take i keys)))

        begins_none : (t ≡ i → ⊥) → is_first keys i ≡ false
        begins_none e =
            let x = get_or keys i 0 in
            ⊎_elim
            (λ (o : has x (take i keys) ≡ true). rw o)
            (λ (o : has x (take i keys) ≡ false). absurd (e (omega (arith, head_is, first_place x keys 0 i (length keys) h refl o))))
            (cases (has x (take i keys)))

        -- a member that begins no group
        pub placing_other : (t ≡ i → ⊥) → Placing keys names next head out₀ lens₀ out lens at count (i + 1)
        placing_other e =
            let same : named_to names keys (i + 1) ≡ named_to names keys i = rw add-one (ap (map (named names)) (up_other keys i (begins_none e))) in
            record {
              keyed = s.keyed;
              linked = s.linked;
              wide = s.wide;
              heads = s.heads;
              nexts = s.nexts;
              low = omega arith;
              written = s.written ∙ sym (ap (λ (r : List (List ℕ)). sets out₀ 0 (flat r)) same);
              lengths = s.lengths ∙ sym (ap (λ (r : List (List ℕ)). sets lens₀ 0 (map length r)) same);
              place = s.place ∙ sym (ap (λ (r : List (List ℕ)). length (flat r)) same);
              number = s.number ∙ sym (ap length same);
            }

        module _ (e : t ≡ i) where
          room : at + length (group_at keys i) ≤ length keys
          room = omega (arith, s.place, named_long names keys i, first_room keys i h (begins e))

          pub placing_writable : Writable keys names next i out at
          placing_writable = record {
            few = s.keyed.few;
            alike = s.keyed.alike;
            linked = s.linked;
            nexts = s.nexts;
            inside = h;
            first = sym head_is ∙ e;
            room = omega (arith, room, placing_out, s.keyed.members);
          }

          pub placing_count : count < length lens
          placing_count = omega (arith, s.number, named_count names keys i, groups_few keys i, placing_lens, s.keyed.groups)

          pub placing_small : (end : ℕ) → end ≡ at + length (group_at keys i) → (at ≤ end) × (end ≤ 512)
          placing_small end f = (omega arith, omega (arith, room, s.keyed.few))

          -- a member that begins a group
          pub placing_first : (out' : List ℕ) (end v : ℕ) → out' ≡ sets out at (named names (group_at keys i)) → end ≡ at + length (group_at keys i) → v ≡ end - at
              → Placing keys names next head out₀ lens₀ out' (set lens count v) end (count + 1) (i + 1)
          unfolding flat
          placing_first out' end v f p q =
              let g = named names (group_at keys i) in
              let done = named_to names keys i in
              let more : named_to names keys (i + 1) ≡ done ++ (g ∷ []) =
              rw add-one (ap (map (named names)) (up_first keys i (begins e)) ∙ map-append (named names) (up_to keys i) (group_at keys i ∷ [])) in
              let long : length g ≡ length (group_at keys i) = length-map (group_at keys i) (λ (k : ℕ). get_or names k 0) in
              let members : flat (named_to names keys (i + 1)) ≡ flat done ++ g =
              ap flat more ∙ flat_append done (g ∷ []) ∙ ap (λ (r : List ℕ). flat done ++ r) (append-nil g) in
              let sizes : map length (named_to names keys (i + 1)) ≡ map length done ++ (length g ∷ []) = ap (map length) more ∙ map-append length done (g ∷ []) in
              record {
                keyed = s.keyed;
                linked = s.linked;
                wide = s.wide;
                heads = s.heads;
                nexts = s.nexts;
                low = omega arith;
                written = rw members (sets_then out₀ 0 (flat done) g at (omega (arith, s.place)) s.written f);
                lengths = rw sizes (sets_then lens₀ 0 (map length done) (length g ∷ []) count (omega (arith, s.number, length-map done length)) s.lengths (ap (λ (k : ℕ). set lens count k) (omega (arith, q, p, long))));
                place = omega (arith, p, s.place, ap length members, length-append (flat done) g, long);
                number = omega (arith, s.number, ap length more, length-append done (g ∷ []));
              }

    pub placing_all : length keys ≤ i
        → (out ≡ sets out₀ 0 (flat (key_groups names keys)))
        × ((lens ≡ sets lens₀ 0 (map length (key_groups names keys))) × (count ≡ length (key_groups names keys)))
    placing_all h =
        let e : i ≡ length keys = omega (arith, s.low) in
        let all : named_to names keys i ≡ key_groups names keys = ap (named_to names keys) e ∙ key_groups_lem names keys in (
          s.written ∙ ap (λ (r : List (List ℕ)). sets out₀ 0 (flat r)) all,
          (s.lengths ∙ ap (λ (r : List (List ℕ)). sets lens₀ 0 (map length r)) all, s.number ∙ ap length all),
        )
