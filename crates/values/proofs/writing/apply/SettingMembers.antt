-- Members set one after another (document 01, "Writing"), where the check accepted: each entry that is no close names a
-- visible member of the structure, and its value comes after it.
use Prim.Native.Nat.{ℕ, zero, suc, ◌+◌, ◌-◌, ◌*◌, ◌^◌, ◌<◌, ◌≤◌}
use native.Mathlib.Decide.{dec_lt}
use native.Mathlib.Omega.{arith}
use mathlib.Core.Path.{◌≡◌, refl, sym, ap, ◌∙◌, subst}
use mathlib.Core.Bool.{Bool, true, false}
use mathlib.Core.List.{List}
use lib.ListN.{length}
use Rattle.words.specs.Bits.{Bits, flat}
use Rattle.types.specs.layout.Laid.{first_bit}
use Rattle.types.specs.tables.Lent.{member_at, type_at}
use Rattle.types.specs.tables.Sizes.{sizes_in}
use Rattle.types.specs.declared.tables.member.StructDef.{StructDef}
use Rattle.values.specs.inside.reading.Walk.{is_nested}
use Rattle.values.specs.inside.reading.Walkable.{NestedRow, RowOf, Walkable}
use Rattle.values.specs.inside.writing.Passes.{Applied, accepted, first_kind, left_at}
use Rattle.values.specs.inside.writing.Rows.{Here, LeafRow, MemberHere, branches_in, member_tree, tree_in}
use Rattle.values.specs.reading.Tree.{struct}
use Rattle.values.specs.stream.Form.{count_in, stream_ok}
use Rattle.values.specs.stream.Stream.{Token, kind_of, payload_of}
use Rattle.values.specs.writing.Writing.{Outcome, and_then, opened, members_in, write, write_branch}
use Rattle.values.proofs.reading.MemberLaws.{row_of}
use Rattle.values.proofs.stream.LeftLaws.{EntryThere, few_entries, left_long, payload_of_entry, kind_there}
use Rattle.values.proofs.writing.ApplyLaws.{Setting, accepted_as, accepted_first, applied_as, not_accepted}
use Rattle.values.proofs.writing.ApplyLaws.{setting_from, setting_on, setting_then, opened_there, opened_kept}
use Rattle.values.proofs.writing.ApplyLaws.{opened_set, members_there, members_closed, members_seven}
use Rattle.values.proofs.writing.BranchLaws.{branch_is, branch_hidden, branch_past}
use Rattle.values.proofs.writing.OutcomeLaws.{in_struct, struct_opens}
use Rattle.values.proofs.writing.StepLaws.{members_go}

-- an entry's number is small
pub next_small : {s : List ℕ} {k : ℕ} → EntryThere s k → stream_ok s ≡ true → k < 2 ^ 28
next_small {s} t form = omega (arith, t.inside, few_entries s form)

-- what was set from the next entry on was set from this one on
applied_after : {s : List ℕ} {k r : ℕ} {image new : List ℕ} {f : Bits → Outcome} → Applied s (k + 1) r image new f
    → Applied s k r image new f
applied_after a =
    record { further = let l = a.further in omega arith; inside = a.inside; long = a.long; gives = a.gives }

-- ---- its members

-- the members of a structure are to be set from an entry on
pub record MembersAsked (types members : List ℕ) (i : ℕ) (s : List ℕ) (k : ℕ) (image : List ℕ) (base : ℕ) : Type 0 where
  pub walk : Walkable types members
  pub here : Here types i base image
  pub form : stream_ok s ≡ true
  pub set : accepted
      (write (struct (8 * sizes_in types i) (branches_in types members i)) (8 * base) (left_at s k) (flat image))
      ≡ true

-- what the contract asks of a structure is what its members are asked
pub members_asked : {types members : List ℕ} {i : ℕ} {s : List ℕ} {k : ℕ} {image : List ℕ} {base : ℕ}
    → Walkable types members × (Here types i base image × (stream_ok s ≡ true))
    → accepted
    (write (struct (8 * sizes_in types i) (branches_in types members i)) (8 * base) (left_at s k) (flat image))
    ≡ true
    → MembersAsked types members i s k image base
members_asked p set = record { walk = p.0; here = p.1.0; form = p.1.1; set = set }

module _ {types members : List ℕ} {i : ℕ} {s : List ℕ} {k : ℕ} {image : List ℕ} {base : ℕ}
    (w : MembersAsked types members i s k image base) where
  abbrev inner : List Token → Bits → Outcome
  inner = in_struct (branches_in types members i) (8 * base)

  opens : write (struct (8 * sizes_in types i) (branches_in types members i)) (8 * base) (left_at s k) (flat image)
      ≡ opened 8 inner (left_at s k) (flat image)
  opens = struct_opens (8 * sizes_in types i) (branches_in types members i) (8 * base) (left_at s k) (flat image)

  -- an accepted structure has its entry
  pub struct_there : EntryThere s k
  struct_there = opened_there w.form 8 inner (flat image) (accepted_as opens w.set)

  -- null for the whole structure keeps what stands
  pub struct_null : first_kind (left_at s k) ≡ 0
      → Applied s k (k + 1) image image
      (write (struct (8 * sizes_in types i) (branches_in types members i)) (8 * base) (left_at s k))
  struct_null e = applied_as opens (opened_kept w.form 8 inner struct_there e)

  struct_set : (first_kind (left_at s k) ≡ 0 → ⊥)
      → Setting s k image
      (write (struct (8 * sizes_in types i) (branches_in types members i)) (8 * base) (left_at s k)) (k + 1) image
      (inner (left_at s (k + 1)))
  struct_set n =
      setting_on (setting_from (omega arith) refl opens w.set)
      (opened_set w.form 8 inner struct_there n (accepted_as opens w.set))

-- the members before entry p are set; one more than `more` is above the entries that are left
pub record MembersSet (types members : List ℕ) (i : ℕ) (s : List ℕ) (k : ℕ) (image : List ℕ) (base first p : ℕ)
    (now : List ℕ) : Type 0 where
  pub asked : MembersAsked types members i s k image base
  pub rows : first ≡ (type_at types i).first
  pub more : ℕ
  pub enough : count_in s - p ≤ more
  pub setting : Setting s k image
      (write (struct (8 * sizes_in types i) (branches_in types members i)) (8 * base) (left_at s k)) p now
      (members_in (suc more) (write_branch (branches_in types members i) (8 * base)) (left_at s p))

-- the next entry names a visible member, and its value comes after it
pub record MemberNamed (types members : List ℕ) (i : ℕ) (s : List ℕ) (k : ℕ) (image : List ℕ) (base first p : ℕ)
    (now : List ℕ) (row : ℕ) : Type 0 where
  pub inside : p < count_in s
  pub row_of : RowOf types members i row
  pub visible : (member_at members row).hidden ≡ false
  pub set : accepted
      (write (member_tree (tree_in types members) (member_at members row))
      (8 * base + first_bit (member_at members row))
      (left_at s (p + 1)) (flat now))
      ≡ true
  pub on : (r : ℕ) (new : List ℕ)
      → Applied s (p + 1) r now new
      (write (member_tree (tree_in types members) (member_at members row))
      (8 * base + first_bit (member_at members row))
      (left_at s (p + 1)))
      → MembersSet types members i s k image base first r new

-- after the opening no member is set yet
pub members_start : {types members : List ℕ} {i : ℕ} {s : List ℕ} {k : ℕ} {image : List ℕ} {base first : ℕ}
    {d : StructDef} → MembersAsked types members i s k image base → (first_kind (left_at s k) ≡ 0 → ⊥)
    → d ≡ type_at types i → first ≡ d.first → MembersSet types members i s k image base first (k + 1) image
members_start {s = s} {k = k} w n is f =
    record {
      asked = w;
      rows = f ∙ ap (λ (x : StructDef). x.first) is;
      more = length (left_at s (k + 1));
      enough = omega (arith, left_long s (k + 1));
      setting = struct_set w n;
    }

module _ {types members : List ℕ} {i : ℕ} {s : List ℕ} {k : ℕ} {image : List ℕ} {base first p : ℕ} {now : List ℕ}
    (v : MembersSet types members i s k image base first p now) where
  abbrev one : Token → List Token → Bits → Outcome
  one = write_branch (branches_in types members i) (8 * base)

  -- the next entry of the accepted members is there
  pub member_there : EntryThere s p
  member_there = members_there v.asked.form (suc v.more) one (flat now) v.setting.taken

  -- the structure lies in the image as it now stands
  pub members_here : Here types i base now
  members_here =
      record { low = v.asked.here.low; inside = omega (arith, v.asked.here.inside, v.setting.long) }

  -- at the close the structure is set
  pub members_end : first_kind (left_at s p) ≡ 9
      → Applied s k (p + 1) image now
      (write (struct (8 * sizes_in types i) (branches_in types members i)) (8 * base) (left_at s k))
  members_end e =
      v.setting.onward (p + 1) now (members_closed v.asked.form one member_there v.more e)

  module _ (n : first_kind (left_at s p) ≡ 9 → ⊥) where
    seven : kind_of member_there.token ≡ 7
    seven = members_seven v.asked.form one member_there v.more (flat now) n v.setting.taken

    step : members_in (suc v.more) one (left_at s p) (flat now)
        ≡ and_then (one member_there.token (left_at s (p + 1)) (flat now))
        (members_in v.more one)
    step = members_go v.asked.form one v.more member_there (kind_there member_there ∙ seven) (flat now)

    taken : accepted (one member_there.token (left_at s (p + 1)) (flat now)) ≡ true
    taken =
        accepted_first (one member_there.token (left_at s (p + 1)) (flat now)) (members_in v.more one)
        (accepted_as step v.setting.taken)

    -- one member is set, and so many entries are taken
    after : (r : ℕ) (new : List ℕ) → Applied s (p + 1) r now new (one member_there.token (left_at s (p + 1)))
        → MembersSet types members i s k image base first r new
    after r new a =
        go v.more v.enough
        (setting_on v.setting (setting_then (members_in v.more one) step v.setting.taken (applied_after a)))
      where
        go : (more : ℕ) → count_in s - p ≤ more
            → Setting s k image
            (write (struct (8 * sizes_in types i) (branches_in types members i)) (8 * base) (left_at s k)) r new
            (members_in more one (left_at s r))
            → MembersSet types members i s k image base first r new
        go zero l t = absurd (let x : ⊥ = omega (arith, member_there.inside) in x)
        go (suc more) l t =
            record {
              asked = v.asked;
              rows = v.rows;
              more = more;
              enough = omega (arith, a.further);
              setting = t;
            }

    module _ {x : ℕ} (e : x ≡ payload_of_entry s p) where
      number : payload_of 0 member_there.token ≡ x
      number = member_there.payload (λ q. let z : ⊥ = omega (arith, seven) in z) ∙ sym e

      below : x < (type_at types i).count
      below = go (dec_lt x (type_at types i).count)
        where
          go : Dec (x < (type_at types i).count) → x < (type_at types i).count
          go (yes l) = l
          go (no l) =
              not_accepted
              (branch_past types members i (8 * base) member_there.token (left_at s (p + 1)) (flat now) x number
              (omega arith)) taken

      shown : (member_at members ((type_at types i).first + x)).hidden ≡ false
      shown = go (member_at members ((type_at types i).first + x)).hidden refl
        where
          go : (b : Bool) → (member_at members ((type_at types i).first + x)).hidden ≡ b
              → (member_at members ((type_at types i).first + x)).hidden ≡ false
          go false h = h
          go true h =
              not_accepted
              (branch_hidden types members i (8 * base) member_there.token (left_at s (p + 1)) (flat now) x number
              below h) taken

      named_row : MemberNamed types members i s k image base first p now ((type_at types i).first + x)
      named_row =
          let is = branch_is types members i (8 * base) member_there.token (left_at s (p + 1)) (flat now) x number
          below shown in
          record {
            inside = member_there.inside;
            row_of = row_of v.asked.walk v.asked.here.low refl refl below;
            visible = shown;
            set = accepted_as is taken;
            on = λ r new a. after r new (applied_as is a);
          }

      -- an accepted entry that is no close names a visible member, in the row of its number
      pub named : MemberNamed types members i s k image base first p now (first + x)
      named =
          subst (λ (f : ℕ). MemberNamed types members i s k image base first p now (f + x)) (sym v.rows) named_row

-- what a row asks to be set, where it is a structure or not
module _ {types members : List ℕ} {i : ℕ} {s : List ℕ} {k : ℕ} {image : List ℕ} {base first p : ℕ} {now : List ℕ}
    {row : ℕ} (v : MembersSet types members i s k image base first p now)
    (u : MemberNamed types members i s k image base first p now row)
    {b : Bool} (test : b ≡ is_nested (member_at members row))
  where
    -- a named member that is a structure, or an array of them, stands in a row of that sort
    pub named_nested : b ≡ true → NestedRow types members i row
    named_nested e = record { row_of = u.row_of; nested = sym test ∙ e }

    -- any other named member stands in a visible row that holds no structure
    pub named_leaf : b ≡ false → LeafRow members row
    named_leaf e = record { inside = u.row_of.inside; visible = u.visible; flat = sym test ∙ e }

    -- the bits of a named member lie in the image as it now stands
    pub named_here : MemberHere (sizes_in types) (member_at members row) base now
    named_here =
        record { inside = let h = (members_here v).inside in let l = u.row_of.within.inside in omega arith }
