-- The normal bits of some leaves put over an image, one leaf after the other (document 01, "Writing", "Normal image"):
-- bit by bit, a held bit becomes the normal one, and every other bit stays.
use Prim.Native.Nat.{ℕ, zero, suc, ◌+◌, ◌-◌}
use native.Mathlib.Nat.{add_assoc}
use native.Mathlib.Omega.{arith}
use mathlib.Core.Path.{◌≡◌, refl, sym, ap, ◌∙◌, fun_ext}
use mathlib.Core.Bool.{cond, ◌||◌}
use mathlib.Core.List.{List, [], ◌∷◌, ◌++◌}
use Rattle.words.specs.Bits.{Bits, from, inside, stamp}
use Rattle.words.proofs.BitLaws.{BitLies, among, beside, lies}
use Rattle.words.proofs.StampLaws.{stamp_none, stamp_two, stamp_again}
use Rattle.values.specs.normal_image.Normal.{norm, held, normal}
use Rattle.values.specs.reading.Leaf.{width}
use Rattle.values.specs.reading.Tree.{Item, say, at, each, one_flag}
use Rattle.values.proofs.normal_image.ItemLaws.{HeldApart}

-- what stands at the end where the leaves' normal bits in x are put over z
unfoldable pub over : List Item → Bits → Bits → Bits
over [] x z = z
over (say e ∷ is) x z = over is x z
over (at p l ∷ is) x z = over is x (stamp p (width l) (norm l (from p x)) z)

-- putting over the leaves of two lists is putting over the first and then the second
pub over_append : (a b : List Item) (x z : Bits) → over (a ++ b) x z ≡ over b x (over a x z)
unfolding over
over_append [] b x z = refl
over_append (say e ∷ a) b x z = over_append a b x z
over_append (at p l ∷ a) b x z = over_append a b x (stamp p (width l) (norm l (from p x)) z)

-- where no two leaves share a bit, a held bit becomes its normal bit, and every other bit stands
pub over_bit : (is : List Item) (x z : Bits) → HeldApart is → (k : ℕ)
    → over is x z k ≡ cond (held is k) (normal is x k) (z k)
unfolding over held normal
over_bit [] x z a k = refl
over_bit (say e ∷ is) x z a k = over_bit is x z a k
over_bit (at p l ∷ is) x z (free, more) k =
    over_bit is x (stamp p (width l) (norm l (from p x)) z) more k ∙ go (lies p (width l) k)
  where
    go : BitLies p (width l) k → cond (held is k) (normal is x k) (stamp p (width l) (norm l (from p x)) z k)
        ≡ cond (inside p (width l) k || held is k)
        (cond (inside p (width l) k) (norm l (from p x) (k - p)) (normal is x k)) (z k)
    go (among u v e) = unfold stamp in rw (free k u v, e) refl
    go (beside f e) = unfold stamp in rw e refl

-- ---- a run of bits is one piece, and hides what stood there

over_flags : (n p : ℕ) (x z : Bits) → over (each n one_flag 1 p) x z ≡ stamp p n (from p x) z
unfolding over each
over_flags zero p x z = sym (stamp_none p (from p x) z)
over_flags (suc n) p x z =
    let e : from (p + 1) x ≡ from 1 (from p x) = fun_ext (λ k. ap x (add_assoc p 1 k)) in
    over_flags n (p + 1) x (stamp p 1 (from p x) z)
    ∙ ap (λ (b : Bits). stamp (p + 1) n b (stamp p 1 (from p x) z)) e
    ∙ stamp_two p 1 n (from p x) z
    ∙ ap (λ (m : ℕ). stamp p m (from p x) z) (omega arith)

-- a run of bits put over an image hides what was put there before
pub flags_hide : (n p : ℕ) (x b z : Bits)
    → over (each n one_flag 1 p) x (stamp p n b z) ≡ over (each n one_flag 1 p) x z
flags_hide n p x b z =
    over_flags n p x (stamp p n b z) ∙ stamp_again p n (from p x) b z ∙ sym (over_flags n p x z)
