-- Every type of a registry is laid out well (document 01, "Layout"; what values may count on), and stays so when types
-- are added: a layout depends on the sizes of earlier types only.
use Rattle.std.specs.Prelude.{Option, Some, None}
use Prim.Native.Nat.{ℕ, ◌+◌, ◌*◌, ◌<◌, ◌≤◌}
use native.Mathlib.Omega.{arith}
use mathlib.Core.Path.{◌≡◌, refl, sym, ap, ◌∙◌}
use mathlib.Core.List.{List, [], ◌∷◌, ◌++◌, map, map-append}
use mathlib.Core.Logic.{inl, inr, ⊎_elim}
use lib.ListN.{length, get_or, length-map, get_or-append}
use Rattle.types.specs.layout.Laid.{Earlier, Apart, Clear, Rising, Laid, Every}
use Rattle.types.specs.layout.Placing.{most_size, times}
use Rattle.types.specs.tables.Defs.{Part, Def}
use Rattle.types.specs.tables.Sizes.{bits_of}
use Rattle.types.specs.declared.tables.member.Member.{Member}
use Rattle.types.specs.declared.tables.member.StructKind.TheVariants.{Str}
use Rattle.types.proofs.layout.StringLaws.{StringParts}
use Rattle.types.proofs.tables.AgreeLaws.{size_same}
use Rattle.types.proofs.tables.ShownLaws.{no_def, each_more}

-- ---- a layout depends on the sizes of earlier types only

abbrev Before : ℕ → Part → Type 0
Before i p = Earlier i p.member.ty

all_before : (sizes : ℕ → ℕ) (i size : ℕ) (ps : List Part) → Laid sizes i size ps → Every (Before i) ps
unfolding Laid Every
all_before sizes i size [] l = tt
all_before sizes i size (p ∷ ps) (l, ls) = (l.earlier, all_before sizes i size ps ls)

module _ (f g : ℕ → ℕ) (i : ℕ) (same : (k : ℕ) → k < i → f k ≡ g k) where
  bits_same : (m : Member) (b : Option ℕ) → Earlier i m.ty → bits_of f b m ≡ bits_of g b m
  bits_same m None e = ap (λ (s : ℕ). 8 * (s * times m.count)) (size_same f g i same m.ty e)
  bits_same m (Some k) e = refl

  apart_same : (m n : Member) → Earlier i m.ty → Earlier i n.ty → Apart f m n → Apart g m n
  apart_same m n a b =
      ⊎_elim (λ h. inl (omega (arith, h, bits_same m m.bit a))) (λ h. inr (omega (arith, h, bits_same n n.bit b)))

  clear_same : (m : Member) (ps : List Part) → Earlier i m.ty → Every (Before i) ps → Clear f m ps → Clear g m ps
  unfolding Clear Every
  clear_same m [] e b c = tt
  clear_same m (p ∷ ps) e (b, bs) (c, cs) =
      (λ h k. apart_same m p.member e b (c h k), clear_same m ps e bs cs)

  rising_same : (m : Member) (ps : List Part) → Earlier i m.ty → Rising f m ps → Rising g m ps
  unfolding Rising
  rising_same m [] e r = tt
  rising_same m (p ∷ ps) e (r, rs) =
      (λ v w. omega (arith, r v w, bits_same m m.bit e), rising_same m ps e rs)

  -- parts laid out well by some sizes are so by any that agree with them for the earlier types
  pub laid_same : (size : ℕ) (ps : List Part) → Laid f i size ps → Laid g i size ps
  unfolding Laid
  laid_same size [] l = tt
  laid_same size (p ∷ ps) (l, ls) = (
    record {
      earlier = l.earlier;
      inside = omega (arith, l.inside, bits_same p.member p.member.bit l.earlier);
      clear = clear_same p.member ps l.earlier (all_before f i size ps ls) l.clear;
      rising = rising_same p.member ps l.earlier l.rising;
    },
    laid_same size ps ls,
  )

-- ---- a registry

-- type i is laid out well, is not too large, and is a string where its kind says so
pub record WellMade (sizes : ℕ → ℕ) (i : ℕ) (d : Def) : Type 0 where
  pub laid : Laid sizes i d.size d.parts
  pub most : d.size ≤ most_size + 224
  pub string : d.kind ≡ Str → StringParts d.size d.parts

-- the size of the n-th type of a registry, 0 past its end
abbrev pub sizes_of : List Def → ℕ → ℕ
sizes_of ds n = get_or (map (λ (x : Def). x.size) ds) n 0

-- each type of a registry is well made
abbrev pub Well : List Def → Type 0
Well ds = (i : ℕ) → i < length ds → WellMade (sizes_of ds) i (get_or ds i no_def)

sizes_stay : (ds : List Def) (d : Def) (k : ℕ) → k < length ds → sizes_of ds k ≡ sizes_of (ds ++ d ∷ []) k
sizes_stay ds d k l =
    let n = length-map ds (λ (x : Def). x.size) in
    sym (ap (λ (s : List ℕ). get_or s k 0) (map-append (λ (x : Def). x.size) ds (d ∷ []))
    ∙ get_or-append (map (λ (x : Def). x.size) ds) _ 0 k (omega (arith, n)))

-- each of no types is well made
pub well_none : Well []
well_none i l = absurd (let z : ⊥ = omega arith in z)

-- one well-made type more leaves all of them well made
pub well_more : (ds : List Def) (d : Def) → Well ds → WellMade (sizes_of ds) (length ds) d → Well (ds ++ d ∷ [])
well_more ds d w n =
    each_more (WellMade (sizes_of (ds ++ d ∷ []))) ds d
    (λ i o. stays i (λ k h. sizes_stay ds d k (omega arith)) (w i o))
    (stays (length ds) (sizes_stay ds d) n)
  where
    stays : {x : Def} (i : ℕ) → ((k : ℕ) → k < i → sizes_of ds k ≡ sizes_of (ds ++ d ∷ []) k)
        → WellMade (sizes_of ds) i x → WellMade (sizes_of (ds ++ d ∷ [])) i x
    stays i same m =
        record {
          laid = laid_same (sizes_of ds) (sizes_of (ds ++ d ∷ [])) i same _ _ m.laid;
          most = m.most;
          string = m.string;
        }
