-- Laws of one stored member: what its parts ask of the tables, and what they leave there.
use Rattle.std.specs.Prelude.{Some, None, Result, Ok, Err}
use Prim.Native.Nat.{ℕ, ◌+◌, ◌*◌, ◌≤◌}
use native.Mathlib.Omega.{arith}
use mathlib.Core.Path.{◌≡◌, sym, ap, ◌∙◌}
use mathlib.Core.List.{List, [], ◌∷◌}
use lib.ListN.{length, length-append}
use lib.Seq.{sets}
use Rattle.words.proofs.Lists.{length_part}
use Rattle.types.specs.inside.layout.Passes.{one_parts, stored_one, StepFits}
use Rattle.types.specs.inside.tables.Lent.{TyFits}
use Rattle.types.specs.layout.HostNames.{host_name}
use Rattle.types.specs.layout.Placing.{placed, opened, next_bit}
use Rattle.types.specs.layout.Structs.{named, names_of, rows_of}
use Rattle.types.specs.tables.Defs.{name_in}
use Rattle.types.specs.tables.Limits.{most_members, most_names}
use Rattle.types.specs.declared.layout.placing.Cursor.{Cursor}
use Rattle.types.specs.declared.layout.placing.Decl.{Decl}
use Rattle.types.specs.declared.layout.placing.LayoutFault.{LayoutFault}
use Rattle.types.specs.declared.layout.placing.Placed.{Placed}
use Rattle.types.specs.declared.layout.placing.Placed.TheVariants.{Hosted, One}
use Rattle.types.specs.declared.tables.member.Member.{Member}
use Rattle.types.proofs.layout.PlaceLaws.{place_cases}
use Rattle.types.proofs.layout.StoreLaws.{one_name, rows_then, names_then}

-- the types of what a step places
abbrev AllFit : Result Placed LayoutFault → Type 0
AllFit (Ok (Hosted h m c)) = TyFits h.ty × TyFits m.ty
AllFit (Ok (One m c)) = TyFits m.ty
AllFit (Err f) = Unit {0}

all_fit : (c : Cursor) (d : Decl) → TyFits d.ty → AllFit (placed c d)
unfolding opened next_bit
all_fit c d f =
    place_cases AllFit c d
    (record {
      wrong = λ a. tt;
      opens = λ b w. (tt, tt);
      next = λ b byte bit e l. tt;
      shared = λ b i e. tt;
      other = λ b l. f;
      far = λ b l. tt;
    })

-- what is asked of the tables for a host and a member, and for a member alone
pub record TwoFit (book type : List ℕ) (c : Cursor) (d : Decl) (row at : ℕ) (h m : Member) : Type 0 where
  pub rows : row + 2 ≤ most_members
  pub names : at + (length (host_name type c.members) + d.name.long) ≤ most_names
  pub host : TyFits h.ty
  pub member : TyFits m.ty

-- what a member alone asks of the tables
pub record OneFits (d : Decl) (row at : ℕ) (m : Member) : Type 0 where
  pub rows : row + 1 ≤ most_members
  pub names : at + d.name.long ≤ most_names
  pub member : TyFits m.ty

module _ (book type : List ℕ) (c : Cursor) (d : Decl) (row at : ℕ) {p : Result Placed LayoutFault}
    (e : p ≡ placed c d) where
  abbrev host : List ℕ
  host = host_name type c.members

  abbrev name : List ℕ
  name = name_in book d.name

  hosted : {h m : Member} {c' : Cursor} → p ≡ Ok (Hosted h m c')
      → one_parts book type c d ≡ named host h ∷ named name m ∷ []
  unfolding one_parts
  hosted q = rw (← e, q)

  alone : {m : Member} {c' : Cursor} → p ≡ Ok (One m c') → one_parts book type c d ≡ named name m ∷ []
  unfolding one_parts
  alone q = rw (← e, q)

  module _ (f : StepFits book type c d row at) where
    long : length name ≡ d.name.long
    long = length_part book d.name.at d.name.long f.name

    -- where a host opens, the tables have room for it and the member
    pub two_fit : {h m : Member} {c' : Cursor} → p ≡ Ok (Hosted h m c') → TwoFit book type c d row at h m
    unfolding names_of
    two_fit {h} {m} {c'} q =
        let s = hosted q in
        let a : AllFit (Ok (Hosted h m c')) = rw (← e, q) at (all_fit c d f.ty) in
        record {
          rows = rw s at f.rows;
          names = omega (arith, long, simp (length-append, length-append) at (rw s at f.names));
          host = a.0;
          member = a.1;
        }

    -- where the member is placed alone, the tables have room for it
    pub one_fits : {m : Member} {c' : Cursor} → p ≡ Ok (One m c') → OneFits d row at m
    unfolding names_of
    one_fits {m} q =
        let s = alone q in
        record {
          rows = rw s at f.rows;
          names = omega (arith, long, simp length-append at (rw s at f.names));
          member = rw (← e, q) at (all_fit c d f.ty);
        }

  -- after a host and its member the next row is two further, the next name after both names
  pub next_hosted : {h m : Member} {c' : Cursor} {k : ℕ} → p ≡ Ok (Hosted h m c') → k ≡ length host
      → Some (record { cursor = c'; row = row + 2; place = at + k + d.name.long }) ≡ stored_one type c d row at
  unfolding stored_one
  next_hosted q l = rw (← e, q, l)

  -- after a member alone the next row is one further, the next name after its name
  pub next_alone : {m : Member} {c' : Cursor} → p ≡ Ok (One m c')
      → Some (record { cursor = c'; row = row + 1; place = at + d.name.long }) ≡ stored_one type c d row at
  unfolding stored_one
  next_alone q = rw (← e, q)

  -- storing stops at a member that cannot be placed
  pub stops : {f : LayoutFault} → p ≡ Err f → None ≡ stored_one type c d row at
  unfolding stored_one
  stops q = rw (← e, q)

  -- a host's part and then the member's are both
  pub rows_hosted : {h m : Member} {c' : Cursor} (t : List ℕ) {k : ℕ} → p ≡ Ok (Hosted h m c') → k ≡ length host
      → sets (sets t (8 * row) (rows_of at (named host h ∷ []))) (8 * (row + 1)) (rows_of (at + k) (named name m ∷ []))
      ≡ sets t (8 * row) (rows_of at (one_parts book type c d))
  rows_hosted {h} {m} t {k} q l =
      let n : k ≡ length (names_of (named host h ∷ [])) = l ∙ ap length (one_name host h) in
      rw (hosted q, n) (sym (rows_then t row at (named host h ∷ []) (named name m ∷ [])))

  -- a host's name and then the member's are the names of both parts
  pub names_hosted : {h m : Member} {c' : Cursor} (t : List ℕ) {k : ℕ} → p ≡ Ok (Hosted h m c') → k ≡ length host
      → sets (sets t at (names_of (named host h ∷ []))) (at + k) (names_of (named name m ∷ []))
      ≡ sets t at (names_of (one_parts book type c d))
  names_hosted {h} {m} t {k} q l =
      let n : k ≡ length (names_of (named host h ∷ [])) = l ∙ ap length (one_name host h) in
      rw (hosted q, n) (sym (names_then t at (named host h ∷ []) (named name m ∷ [])))

  -- the row of a member alone is all the rows that the step stores
  pub rows_alone : {m : Member} {c' : Cursor} (t : List ℕ) → p ≡ Ok (One m c')
      → sets t (8 * row) (rows_of at (named name m ∷ [])) ≡ sets t (8 * row) (rows_of at (one_parts book type c d))
  rows_alone t q = rw (alone q)

  -- the name of a member alone is all the names that the step stores
  pub names_alone : {m : Member} {c' : Cursor} (t : List ℕ) → p ≡ Ok (One m c')
      → sets t at (names_of (named name m ∷ [])) ≡ sets t at (names_of (one_parts book type c d))
  names_alone t q = rw (alone q)

  -- nothing is stored where the step is refused
  refused : {f : LayoutFault} → p ≡ Err f → one_parts book type c d ≡ []
  unfolding one_parts
  refused q = rw (← e, q)

  -- where the step is refused, the rows stay as they were
  pub rows_kept : (t : List ℕ) {f : LayoutFault} → p ≡ Err f
      → t ≡ sets t (8 * row) (rows_of at (one_parts book type c d))
  unfolding rows_of
  rows_kept t q = rw (refused q)

  -- where the step is refused, the names stay as they were
  pub names_kept : (t : List ℕ) {f : LayoutFault} → p ≡ Err f → t ≡ sets t at (names_of (one_parts book type c d))
  unfolding names_of
  names_kept t q = rw (refused q)
