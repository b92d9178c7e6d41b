-- What rounds over a book keep (document 01, "Order of building"): the tables show every type that was added, every one
-- is laid out well and proper, and no two hold the same id or have the same name. They begin with the predefined types.
use Prim.Native.Nat.{ℕ, ◌≤◌}
use native.Mathlib.Omega.{arith}
use mathlib.Core.Path.{◌≡◌, refl}
use mathlib.Core.Bool.{true}
use mathlib.Core.List.{List, [], ◌∷◌, ◌++◌}
use lib.ListN.{length}
use Rattle.words.specs.Words.{Bytes}
use Rattle.types.specs.adding.Add.{Verdict, no as against, yes as for}
use Rattle.types.specs.book.Contents.{types_in}
use Rattle.types.specs.layout.Predefined.{predefined_ids, predefined}
use Rattle.types.specs.refusals.Said.{Why}
use Rattle.types.specs.rounds.Rounds.{Step, ok, accepted}
use Rattle.types.specs.rounds.Turns.{stuck_at, ready_in, verdict_on, step_of, add_in, up_from, rounds_from}
use Rattle.types.specs.tables.Defs.{Def}
use Rattle.types.specs.tables.Registry.{view_of}
use Rattle.types.specs.declared.layout.predefined.PredefinedIds.{PredefinedIds}
use Rattle.types.proofs.adding.VerdictLaws.{verdict_fits, verdict_laid, verdict_most, verdict_string}
use Rattle.types.proofs.adding.VerdictLaws.{verdict_proper, verdict_unheld, verdict_unknown}
use Rattle.types.proofs.layout.PredefinedIds.{ids_allowed}
use Rattle.types.proofs.layout.PredefinedLaws.{predefined_built, predefined_shown}
use Rattle.types.proofs.layout.PredefinedWell.{predefined_well}
use Rattle.types.proofs.rounds.RoundLaws.{rounds_keep}
use Rattle.types.proofs.tables.ProperLaws.{AllProper, proper_more, predefined_proper}
use Rattle.types.proofs.tables.RegistryLaws.{length_snoc}
use Rattle.types.proofs.tables.ShownLaws.{no_def, TablesShow, shown_more}
use Rattle.types.proofs.tables.UniqueLaws.{Unlike, new_differs, unlike_more, predefined_unlike}
use Rattle.types.proofs.tables.WellLaws.{Well, well_more}

-- a registry that our own calls make
pub record Good (ds : List Def) : Type 0 where
  pub shown : TablesShow ds
  pub well : Well ds
  pub unlike : Unlike ds
  pub proper : AllProper ds

-- one that begins with the predefined types
pub record Begun (ds : List Def) : Type 0 where
  pub good : Good ds
  pub four : 4 ≤ length ds

-- the predefined types are one
pub predefined_begun : (ids : PredefinedIds) → predefined_ids ids ≡ true
    → Begun (predefined ids)
predefined_begun ids e =
    record {
      good =
          record {
            shown = predefined_shown ids e;
            well = predefined_well ids;
            unlike = predefined_unlike ids e;
            proper = predefined_proper ids e;
          };
      four = omega (arith, (predefined_built ids (ids_allowed ids e)).few);
    }

-- a step that went on added a type
record StepAdds (s : Verdict) (ds ds' : List Def) : Type 0 where
  pub def : Def
  pub is : s ≡ for def
  pub next : ds' ≡ ds ++ def ∷ []

step_added : (s : Verdict) (ds ds' : List Def) → ◌≡◌ {A = Step (List Def) Why} (step_of s ds) (ok ds')
    → StepAdds s ds ds'
step_added (for d) ds ds' e = record { def = d; is = refl; next = cc }
step_added (against r) ds ds' e = record { def = no_def; is = cc; next = cc }

module _ (book : List ℕ) (b : Bytes book) where
  -- adding a type of the book keeps it, and so do all rounds
  pub keeps : (ds ds' : List Def) (i : ℕ) → Begun ds → add_in book ds i ≡ ok ds' → Begun ds'
  unfolding add_in view_of
  keeps ds ds' i h e =
      let a = step_added (verdict_on book (view_of ds) i) ds ds' e in
      let g = h.good in
      rw a.next
      (record {
        good =
            record {
              shown = shown_more ds a.def g.shown (verdict_fits book ds i a.def b g.shown a.is);
              well =
                  well_more ds a.def g.well
                  (record {
                    laid = verdict_laid book ds i a.def a.is;
                    most = verdict_most book ds i a.def a.is;
                    string = verdict_string book ds i a.def a.is;
                  });
              unlike =
                  unlike_more ds a.def g.unlike
                  (new_differs ds a.def (verdict_unheld book ds i a.def a.is)
                  (verdict_unknown book ds i a.def a.is));
              proper = proper_more ds a.def g.proper (verdict_proper book ds i a.def a.is h.four);
            };
        four = omega (arith, h.four, length_snoc ds a.def);
      })

  -- rounds that accept lead from a registry that begins with the predefined types to such a one
  pub rounds_begun : (start ds : List Def) → Begun start → rounds_from book start ≡ accepted ds → Begun ds
  unfolding rounds_from
  rounds_begun start ds g e =
      rounds_keep stuck_at (ready_in book) (add_in book) Begun (λ s s' i h r q. keeps s s' i h q) (types_in book) start
      (up_from 0 (types_in book)) ds g e
