-- Laws of a sink (document 01, "Template and handle"): what comes in two pieces came as one, and what is left of a
-- whole while its pieces come one after the other.
use Prim.Native.Nat.{ℕ, ◌+◌}
use native.Mathlib.Omega.{arith}
use mathlib.Core.Path.{◌≡◌, refl, sym, ap, ◌∙◌}
use mathlib.Core.Bool.{Bool, true, false, cond}
use mathlib.Core.List.{List, [], ◌++◌}
use lib.ListN.{length, length-append}
use lib.Seq.{sets, length-sets}
use Rattle.words.proofs.Lists.{cond_sets}
use Rattle.types.specs.inside.templates.Sink.{SinkRoom, Emitted}
use Rattle.types.specs.templates.Handle.{fold_from}
use Rattle.types.specs.declared.templates.sink.Sink.{Sink}
use Rattle.types.proofs.templates.HandleLaws.{fold_append}

pub none_came : (k : Sink) (out : List ℕ) → Emitted [] k out k out
unfolding fold_from
none_came k out = record { at = omega arith; fold = refl; writes = refl; bytes = same k.writes out }
  where
    same : (b : Bool) (o : List ℕ) → o ≡ cond b o o
    same true o = refl
    same false o = refl

-- two pieces that came one after the other came as one
pub came_both : {s t : List ℕ} {k m r : Sink} {out left last : List ℕ}
    → Emitted s k out m left → Emitted t m left r last → Emitted (s ++ t) k out r last
came_both {s} {t} {k} {m} {r} {out} {left} {last} a b =
    record {
      at = omega (arith, a.at, b.at, length-append s t);
      fold = b.fold ∙ rw a.fold (sym (fold_append k.fold s t));
      writes = b.writes ∙ a.writes;
      bytes = cond_sets k.writes m.writes k.at m.at s t out left last
          a.writes a.at a.bytes b.bytes;
    }

pub long_kept : {s : List ℕ} {k r : Sink} {out left : List ℕ} → Emitted s k out r left → length left ≡ length out
long_kept {s} {k} {r} {out} {left} e = ap length e.bytes ∙ same k.writes
  where
    same : (b : Bool) → length (cond b (sets out k.at s) out) ≡ length out
    same true = length-sets out k.at s
    same false = refl

-- ---- a whole, piece by piece

-- of a whole that comes to the sink k at out, the rest is left to come to the sink m at left
pub record PiecesLeft (whole : List ℕ) (k : Sink) (out rest : List ℕ) (m : Sink) (left : List ℕ) : Type 0 where
  pub long : length left ≡ length out
  pub room : SinkRoom rest m left
  pub then : (r : Sink) (last : List ℕ) → Emitted rest m left r last → Emitted whole k out r last

-- before the first piece comes the whole is left
pub left_all : {s : List ℕ} {k : Sink} {out : List ℕ} → SinkRoom s k out → PiecesLeft s k out s k out
left_all h = record { long = refl; room = h; then = λ r last e. e }

-- the next piece of what is left fits
pub left_room : {whole rest : List ℕ} {k m : Sink} {out left : List ℕ} (s t : List ℕ) → rest ≡ s ++ t
    → PiecesLeft whole k out rest m left → SinkRoom s m left
left_room {whole} {rest} {k} {m} {out} {left} s t e l =
    let n : length rest ≡ length s + length t = ap length e ∙ length-append s t in
    record { small = omega (arith, l.room.small, n); room = λ w. omega (arith, l.room.room w, n) }

-- where the next piece came, the pieces after it are left
pub left_on : {whole rest s : List ℕ} {k m r : Sink} {out left last : List ℕ} (t : List ℕ) → rest ≡ s ++ t
    → PiecesLeft whole k out rest m left → Emitted s m left r last → PiecesLeft whole k out t r last
left_on {whole} {rest} {s} {k} {m} {r} {out} {left} {last} t e l h =
    let n : length rest ≡ length s + length t = ap length e ∙ length-append s t in
    record {
      long = long_kept h ∙ l.long;
      room = record {
        small = omega (arith, l.room.small, n, h.at);
        room = λ w. omega (arith, l.room.room (sym h.writes ∙ w), n, h.at, long_kept h);
      };
      then = λ x y f. l.then x y (rw e (came_both h f));
    }

-- where nothing is left, the whole came
pub left_none : {whole rest : List ℕ} {k m : Sink} {out left : List ℕ} → rest ≡ [] → PiecesLeft whole k out rest m left
    → Emitted whole k out m left
left_none {whole} {rest} {k} {m} {out} {left} e l = l.then m left (rw e (none_came m left))
