-- The visible members' bits never pass the size (document 01, "Template and handle", Waste: a true difference). It
-- follows from a layout alone: each member lies inside the size, and no two visible ones share a bit, so that each bit
-- of the size is counted once at most.
use Prim.Native.Nat.{ℕ, zero, suc, ◌+◌, ◌*◌, ◌≤◌, ◌<◌}
use native.Mathlib.Decide.{dec_lt}
use native.Mathlib.Omega.{arith}
use mathlib.Core.Path.{◌≡◌, refl}
use mathlib.Core.Bool.{Bool, true, false, cond}
use mathlib.Core.List.{List, [], ◌∷◌}
use mathlib.Core.Logic.{◌⊎◌, inl, inr, ⊎_elim}
use Rattle.words.proofs.ArithLaws.{below, below_more, below_same, below_all, below_none}
use Rattle.types.specs.layout.Laid.{first_bit, past_bit, Apart, Clear, Laid}
use Rattle.types.specs.tables.Defs.{Part, Def}
use Rattle.types.specs.tables.Sizes.{bits_of}
use Rattle.types.specs.templates.Waste.{visible_bits, waste_of}
use Rattle.types.specs.declared.tables.member.Member.{Member}

-- ---- one stretch of bits

module _ (sizes : ℕ → ℕ) where
  -- how many bits of a part come before bit x, none of a hidden one
  abbrev seen_bits : Bool → ℕ → Member → ℕ
  seen_bits h x m = cond h 0 (below x (first_bit m) (past_bit sizes m))

  bits_below : ℕ → List Part → ℕ
  bits_below x [] = 0
  bits_below x (p ∷ ps) = seen_bits p.member.hidden x p.member + bits_below x ps

  bits_none : (ps : List Part) → bits_below 0 ps ≡ 0
  unfolding bits_below
  bits_none [] = refl
  bits_none (p ∷ ps) = go p.member.hidden (bits_none ps)
    where
      go : (h : Bool) → bits_below 0 ps ≡ 0 → seen_bits h 0 p.member + bits_below 0 ps ≡ 0
      go true ih = omega arith
      go false ih = omega (arith, below_none (first_bit p.member) (past_bit sizes p.member))

  -- a bit of a visible part is of no other
  bits_same : (m : Member) (x : ℕ) (ps : List Part) → m.hidden ≡ false → first_bit m ≤ x → x < past_bit sizes m
      → Clear sizes m ps → bits_below (suc x) ps ≡ bits_below x ps
  unfolding Clear bits_below
  bits_same m x [] v l h c = refl
  bits_same m x (p ∷ ps) v l h (c, cs) = go p.member.hidden (c v) (bits_same m x ps v l h cs)
    where
      outside : Apart sizes m p.member → (x < first_bit p.member) ⊎ (past_bit sizes p.member ≤ x)
      outside = ⊎_elim (λ q. inl (omega arith)) (λ q. inr (omega arith))

      go : (b : Bool) → (b ≡ false → Apart sizes m p.member) → bits_below (suc x) ps ≡ bits_below x ps
          → seen_bits b (suc x) p.member + bits_below (suc x) ps ≡ seen_bits b x p.member + bits_below x ps
      go true f ih = rw ih
      go false f ih = rw (ih, below_same x (first_bit p.member) (past_bit sizes p.member) (outside (f refl)))

  -- so one bit more is at most one bit more of them
  bits_more : (i size x : ℕ) (ps : List Part) → Laid sizes i size ps → bits_below (suc x) ps ≤ suc (bits_below x ps)
  unfolding Laid bits_below
  bits_more i size x [] d = omega arith
  bits_more i size x (p ∷ ps) (d, ds) = go p.member.hidden refl (bits_more i size x ps ds)
    where
      first : ℕ
      first = first_bit p.member

      past : ℕ
      past = past_bit sizes p.member

      visible : p.member.hidden ≡ false → bits_below (suc x) ps ≤ suc (bits_below x ps)
          → Dec (x < first) → Dec (x < past)
          → below (suc x) first past + bits_below (suc x) ps ≤ suc (below x first past + bits_below x ps)
      visible v ih (yes l) h = omega (arith, ih, below_same x first past (inl l))
      visible v ih (no l) (yes h) =
          let same = bits_same p.member x ps v (omega (arith, l)) h d.clear in
          omega (arith, same, below_more x first past)
      visible v ih (no l) (no h) = omega (arith, ih, below_same x first past (inr (omega (arith, h))))

      go : (b : Bool) → p.member.hidden ≡ b → bits_below (suc x) ps ≤ suc (bits_below x ps)
          → seen_bits b (suc x) p.member + bits_below (suc x) ps ≤ suc (seen_bits b x p.member + bits_below x ps)
      go true v ih = omega (arith, ih)
      go false v ih = visible v ih (dec_lt x first) (dec_lt x past)

  bits_most : (i size x : ℕ) (ps : List Part) → Laid sizes i size ps → bits_below x ps ≤ x
  bits_most i size zero ps d = omega (arith, bits_none ps)
  bits_most i size (suc x) ps d = omega (arith, bits_more i size x ps d, bits_most i size x ps d)

  -- all their bits come before the end
  bits_all : (i size : ℕ) (ps : List Part) → Laid sizes i size ps → bits_below (8 * size) ps ≡ visible_bits sizes ps
  unfolding Laid bits_below visible_bits
  bits_all i size [] d = refl
  bits_all i size (p ∷ ps) (d, ds) = go p.member.hidden (bits_all i size ps ds)
    where
      bits : ℕ
      bits = bits_of sizes p.member.bit p.member

      go : (b : Bool) → bits_below (8 * size) ps ≡ visible_bits sizes ps
          → seen_bits b (8 * size) p.member + bits_below (8 * size) ps ≡ cond b 0 bits + visible_bits sizes ps
      go true ih = rw ih
      go false ih = rw (ih, below_all (8 * size) (first_bit p.member) bits d.inside)

  -- the visible members' bits never pass the size
  pub visible_inside : (i size : ℕ) (ps : List Part) → Laid sizes i size ps → visible_bits sizes ps ≤ 8 * size
  visible_inside i size ps d = omega (arith, bits_most i size (8 * size) ps d, bits_all i size ps d)

  -- so waste is a true difference: with the visible members' bits it makes up the size
  pub waste_rest : (i : ℕ) (d : Def) → Laid sizes i d.size d.parts
      → waste_of sizes d + visible_bits sizes d.parts ≡ 8 * d.size
  unfolding waste_of
  waste_rest i d l = omega (arith, visible_inside i d.size d.parts l)
