-- Runs of entries with their texts (document 01, "Value stream"): one run after another, the room of each, and a run in
-- brackets as a loop writes it.
use Prim.Native.Nat.{ℕ, ◌+◌, ◌-◌, ◌*◌, ◌≤◌, ◌<◌}
use native.Mathlib.Omega.{arith}
use mathlib.Core.Path.{◌≡◌, refl, sym, ap, ◌∙◌, subst}
use mathlib.Core.List.{List, [], ◌∷◌, ◌++◌, append_assoc}
use lib.ListN.{length, length-append}
use lib.Seq.{sets, length-sets}
use Rattle.words.proofs.Lists.{sets_append, sets_swap}
use Rattle.values.specs.inside.reading.Walk.{up_to, wrap}
use Rattle.values.specs.inside.stream.Laying.{StreamRoom, TokensLaid, laid_in}
use Rattle.values.specs.stream.Stream.{Token, member, mark, entry_bytes, heads, bodies, most_bytes}
use Rattle.values.specs.declared.stream.place.Place.{Place}
use Rattle.values.proofs.reading.UpLaws.{up_more, up_split}
use Rattle.values.proofs.stream.HeadLaws.{heads_append, bodies_append, texts_append, length_heads}
use Rattle.values.proofs.stream.HeadLaws.{textless_plain}
use Rattle.values.proofs.stream.PutLaws.{put_one, put_wrote}

-- ---- one run after another

-- the entries stand below the base and the texts above it, so that neither run touches the other's
module _ (out : List ℕ) (base at text : ℕ) (ts us : List Token) where
  laid_append : at + 12 * length (ts ++ us) ≤ base
      → laid_in (laid_in out base at text ts) base (at + 12 * length ts) (text + length (bodies ts)) us
      ≡ laid_in out base at text (ts ++ us)
  unfolding laid_in
  laid_append h =
      let n = length-append ts us in
      let first : List ℕ = sets out at (heads text ts) in
      let next : ℕ = text + length (bodies ts) in
      let more : List ℕ = heads next us in
      let past : ℕ = at + 12 * length ts in
      let long : at + length (heads text ts) ≡ past = omega (arith, length_heads text ts) in
      let all : sets out at (heads text (ts ++ us)) ≡ sets first past more =
      rw (heads_append text ts us, sets_append out at (heads text ts) more, long) in
      let swap : sets (sets first past more) (base + text) (bodies ts)
      ≡ sets (sets first (base + text) (bodies ts)) past more =
      sets_swap first past (base + text) more (bodies ts) (omega (arith, length_heads next us)) in
      let after : base + text + length (bodies ts) ≡ base + next = omega arith in
      sym
      (rw (
        all,
        bodies_append ts us,
        sets_append (sets first past more) (base + text) (bodies ts) (bodies us),
        swap,
        after,
      ))

wrote_length : {out new : List ℕ} {base at text : ℕ} {ts : List Token} {p : Place}
    → TokensLaid out base at text ts new p → length new ≡ length out
unfolding laid_in
wrote_length {out} {base = base} {at} {text} {ts} w =
    ap length w.bytes ∙ length-sets (sets out at (heads text ts)) (base + text) (bodies ts)
    ∙ length-sets out at (heads text ts)

wrote_none : (out : List ℕ) (base at text : ℕ) → TokensLaid out base at text [] out (record { at = at; text = text })
wrote_none out base at text =
    record {
      entries = omega arith;
      texts = unfold bodies in omega arith;
      bytes = unfold laid_in heads bodies in refl;
    }

wrote_then : {out mid new : List ℕ} {long base at text p t : ℕ} {ts us : List Token} {r : Place}
    → StreamRoom long base at text (ts ++ us) → TokensLaid out base at text ts mid (record { at = p; text = t })
    → TokensLaid mid base p t us new r → TokensLaid out base at text (ts ++ us) new r
wrote_then {out} {base = base} {at} {text} {p} {t} {ts} {us} room a b =
    let n = length-append ts us in
    let m = texts_append ts us in
    let a0 : p ≡ at + 12 * length ts = a.entries in
    let a1 : t ≡ text + length (bodies ts) = a.texts in
    record {
      entries = omega (arith, b.entries);
      texts = omega (arith, b.texts);
      bytes = b.bytes ∙ rw (a.bytes, a0, a1) (laid_append out base at text ts us room.entries);
    }

-- ---- room

-- the same entries have the same room
pub room_as : {long base at text : ℕ} {ts us : List Token} → ts ≡ us → StreamRoom long base at text ts
    → StreamRoom long base at text us
room_as {long} {base} {at} {text} e r = subst (StreamRoom long base at text) e r

-- the same entries are written
pub wrote_as : {out new : List ℕ} {base at text : ℕ} {ts us : List Token} {p : Place} → ts ≡ us
    → TokensLaid out base at text us new p → TokensLaid out base at text ts new p
wrote_as {out} {new} {base} {at} {text} {p = p} e w =
    subst (λ (l : List Token). TokensLaid out base at text l new p) (sym e) w

room_long : {long other base at text : ℕ} {ts : List Token} → other ≡ long → StreamRoom long base at text ts
    → StreamRoom other base at text ts
room_long e r = record { entries = r.entries; texts = rw e r.texts; most = r.most }

room_front : {long base at text : ℕ} (ts us : List Token) → StreamRoom long base at text (ts ++ us)
    → StreamRoom long base at text ts
room_front ts us r =
    let n = length-append ts us in
    let m = texts_append ts us in
    record {
      entries = omega (arith, r.entries);
      texts = omega (arith, r.texts);
      most = omega (arith, r.most);
    }

room_after : {out new : List ℕ} {long base at text p t : ℕ} {ts : List Token} (us : List Token)
    → StreamRoom long base at text (ts ++ us) → TokensLaid out base at text ts new (record { at = p; text = t })
    → StreamRoom long base p t us
room_after {p = p} {t} {ts} us r w =
    let n = length-append ts us in
    let m = texts_append ts us in
    record {
      entries = omega (arith, r.entries, w.entries);
      texts = omega (arith, r.texts, w.texts);
      most = omega (arith, r.most, w.texts);
    }

-- the first of some entries has room
pub room_one : {long base at text : ℕ} {t : Token} {ts : List Token} → StreamRoom long base at text (t ∷ ts)
    → (at + 12 ≤ long) × (at + 12 ≤ most_bytes)
room_one r = (omega (arith, r.entries, r.texts), omega (arith, r.entries, r.most))

-- where some entries have room, the heads of all of them have
pub room_all : {long base at text : ℕ} {ts : List Token} → StreamRoom long base at text ts → at + 12 * length ts ≤ long
room_all r = omega (arith, r.entries, r.texts)

-- ---- one entry

-- a bracket
mark_wrote : {out new : List ℕ} {base at text : ℕ} (k : ℕ) → new ≡ sets out at (entry_bytes k 0)
    → TokensLaid out base at text (mark k ∷ []) new (record { at = at + 12; text = text })
mark_wrote {base = base} {text = text} k e = put_wrote base text textless_plain (put_one (mark k) refl refl e)

-- a member's number, and its value after it
module _ (out : List ℕ) {mid : List ℕ} {base at text j : ℕ} {ts : List Token}
    (room : StreamRoom (length out) base at text (member j ∷ ts)) (put : mid ≡ sets out at (entry_bytes 7 j)) where
  number : TokensLaid out base at text (member j ∷ []) mid (record { at = at + 12; text = text })
  number = put_wrote base text textless_plain (put_one (member j) refl refl put)

  -- a member's value has room after its number
  pub value_room : StreamRoom (length mid) base (at + 12) text ts
  value_room = room_long (wrote_length number) (room_after {ts = member j ∷ []} ts room number)

  -- a member's number and then its value are written: the member
  pub value_wrote : {new : List ℕ} {r : Place} → TokensLaid mid base (at + 12) text ts new r
      → TokensLaid out base at text (member j ∷ ts) new r
  value_wrote w = wrote_then {ts = member j ∷ []} {us = ts} room number w

-- ---- a run in a loop

-- n parts in brackets, the last of them of kind c, of which i are written: what stands, and the room for all and the
-- bracket
pub record EntriesRun (g : ℕ → List Token) (n c : ℕ) (out : List ℕ) (base at text i : ℕ)
    (new : List ℕ) (p t : ℕ) : Type 0
  where
    pub wrote : TokensLaid out base at text (up_to g i) new (record { at = p; text = t })
    pub room : StreamRoom (length out) base at text (up_to g n ++ mark c ∷ [])
    pub most : i ≤ n

-- the open bracket is written
pub run_start : {g : ℕ → List Token} {n o c : ℕ} (out : List ℕ) {mid : List ℕ} {base at text : ℕ}
    → StreamRoom (length out) base at text (wrap o c (up_to g n)) → mid ≡ sets out at (entry_bytes o 0)
    → EntriesRun g n c mid base (at + 12) text 0 mid (at + 12) text
run_start {g} {n} {o} {c} out {mid} {base} {at} {text} room put =
    let first = mark_wrote o put in
    record {
      wrote = unfold up_to in wrote_none mid base (at + 12) text;
      room = room_long (wrote_length first) (room_after {ts = mark o ∷ []} (up_to g n ++ mark c ∷ []) room first);
      most = omega arith;
    }

module _ {g : ℕ → List Token} {n c : ℕ} {out : List ℕ} {base at text i : ℕ} {new : List ℕ} {p t : ℕ}
    (run : EntriesRun g n c out base at text i new p t) where
  -- the buffer keeps its length
  pub run_long : length new ≡ length out
  run_long = wrote_length run.wrote

  module _ (h : i < n) where
    rest : List Token
    rest = up_to (λ j. g (i + 1 + j)) (n - (i + 1)) ++ mark c ∷ []

    parts : up_to g n ++ mark c ∷ [] ≡ (up_to g i ++ g i) ++ rest
    unfolding rest
    parts =
        let e : i + 1 + (n - (i + 1)) ≡ n = omega arith in
        let later : List Token = up_to (λ j. g (i + 1 + j)) (n - (i + 1)) in
        let f : up_to g n ≡ (up_to g i ++ g i) ++ later =
        ap (up_to g) (sym e) ∙ up_split g (i + 1) (n - (i + 1)) ∙ ap (λ (l : List Token). l ++ later) (up_more g i) in
        ap (λ (l : List Token). l ++ mark c ∷ []) f ∙ append_assoc (up_to g i ++ g i) later (mark c ∷ [])

    turn : StreamRoom (length out) base at text (up_to g i ++ g i)
    turn = room_front (up_to g i ++ g i) rest (room_as parts run.room)

    -- the next part of the run has room
    pub run_room : StreamRoom (length new) base p t (g i)
    run_room = room_long run_long (room_after {ts = up_to g i} (g i) turn run.wrote)

    -- the next part is written: one part more
    pub run_turn : {last : List ℕ} {r : Place} → TokensLaid new base p t (g i) last r
        → EntriesRun g n c out base at text (i + 1) last r.at r.text
    run_turn w =
        record {
          wrote = wrote_as (up_more g i) (wrote_then {ts = up_to g i} {us = g i} turn run.wrote w);
          room = run.room;
          most = omega arith;
        }

  module _ (h : n ≤ i) where
    all : TokensLaid out base at text (up_to g n) new (record { at = p; text = t })
    all =
        let e : i ≡ n = omega (arith, run.most) in
        rw e at run.wrote

    -- all parts are written: the close bracket has room
    pub run_last : StreamRoom (length new) base p t (mark c ∷ [])
    run_last = room_long run_long (room_after {ts = up_to g n} (mark c ∷ []) run.room all)

    run_close : {last : List ℕ} → last ≡ sets new p (entry_bytes c 0)
        → TokensLaid out base at text (up_to g n ++ mark c ∷ []) last (record { at = p + 12; text = t })
    run_close e = wrote_then {ts = up_to g n} {us = mark c ∷ []} run.room all (mark_wrote c e)

-- the close bracket is written
pub run_end : {g : ℕ → List Token} {n o c : ℕ} {out mid new last : List ℕ} {base at text i p t : ℕ}
    → StreamRoom (length out) base at text (wrap o c (up_to g n)) → mid ≡ sets out at (entry_bytes o 0)
    → EntriesRun g n c mid base (at + 12) text i new p t → n ≤ i → last ≡ sets new p (entry_bytes c 0)
    → TokensLaid out base at text (wrap o c (up_to g n)) last (record { at = p + 12; text = t })
run_end {g} {n} {o} {c} room put run h e =
    wrote_then {ts = mark o ∷ []} {us = up_to g n ++ mark c ∷ []} room (mark_wrote o put) (run_close run h e)
