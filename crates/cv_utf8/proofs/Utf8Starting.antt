-- The characters of UTF-8 that begin in a window of whole characters.
use Rattle.std.proofs.Common.{◌≡◌, ℕ, ◌+◌, ◌*◌, ◌%◌, ◌<◌, ◌≤◌, ◌⊎◌, inl, inr, Bool, true, false, cond, Fits, List, []}
use Rattle.std.proofs.Common.{◌∷◌, length, drop, get_or, refl, ◌∙◌, ap, ap₂, arith, suc, w8, lit≤, min}
use Rattle.std.proofs.Math.Dec.{ltb}
use Rattle.std.proofs.Math.Seq.{drop-cons}
use Rattle.std.proofs.lemmas.Bool.{le-ltb, lt-ltb}
use Rattle.cv_base.specs.Scalars.{IsScalar}
use Rattle.std.specs.Int.{bit_at}
use Rattle.cv_block.specs.StatelessForms.{IsFormAt}
use Rattle.cv_utf8.specs.Utf8.{utf8_bytes}
use Rattle.cv_utf8.specs.Private.Utf8Short.{is_continuation}
use Rattle.cv_utf8.specs.Private.Utf8Windows.{IsLane, AreStarting, IsOneAt, IsTwoAt, IsThreeAt, IsFollowing}
use Rattle.cv_utf8.specs.Private.Utf8Windows.{AreComplete, whole_of, whole_value}
use Rattle.cv_utf8.proofs.Utf8Short.{two, one_spelled, two_spelled}
use Rattle.cv_utf8.proofs.Utf8Covered.{behind_range, clash, lt_or_le, tail_behind}

three : (text : List ℕ) (at : ℕ) → at + 3 ≤ length text
    → drop at text ≡ get_or text at 0 ∷ get_or text (at + 1) 0 ∷ get_or text (at + 2) 0 ∷ drop (suc (suc (suc at))) text
three text at h =
    let third : suc (suc at) < length text = omega arith in
    let e : suc (suc at) ≡ at + 2 = omega arith in
    two text at (omega arith) ∙ ap (λ (x : List ℕ). get_or text at 0 ∷ get_or text (at + 1) 0 ∷ x)
    (drop-cons text (suc (suc at)) 0 third ∙ ap (λ i. get_or text i 0 ∷ drop (suc (suc (suc at))) text) e)

three_bytes : (x y z : ℕ) → 0xe0 ≤ x → x ≤ 0xef → 0x80 ≤ y → y ≤ 0xbf → 0x80 ≤ z → z ≤ 0xbf → (x ≡ 0xe0 → 0xa0 ≤ y)
    → utf8_bytes ((x % 16) * 4096 + y % 64 * 64 + z % 64) ≡ x ∷ y ∷ z ∷ []
three_bytes x y z h k l m i j f = grind arith

three_scalar : (x y z : ℕ) → 0xe0 ≤ x → x ≤ 0xef → 0x80 ≤ y → y ≤ 0xbf → (x ≡ 0xed → y < 0xa0)
    → IsScalar ((x % 16) * 4096 + y % 64 * 64 + z % 64)
three_scalar x y z h k l m f = grind arith

three_value : (x y z : ℕ) → 0xe0 ≤ x → x ≤ 0xef → 0x80 ≤ y → y ≤ 0xbf → (x ≡ 0xed → y < 0xa0)
    → whole_of x y z ≡ (x % 16) * 4096 + y % 64 * 64 + z % 64
three_value x y z h k l m f = grind arith

two_is : (x y z : ℕ) → 0xc2 ≤ x → x ≤ 0xdf → whole_of x y z ≡ (x % 32) * 64 + y % 64
two_is x y z h k = grind arith

one_is : (x y z : ℕ) → x < 128 → whole_of x y z ≡ x
one_is x y z h = grind arith

three_spelled : (text : List ℕ) (at v : ℕ) → at + 3 ≤ length text
    → IsThreeAt text at → v ≡ whole_value text at → IsFormAt utf8_bytes text at v 3
three_spelled text at v room p e =
    let x = get_or text at 0 in
    let y = get_or text (at + 1) 0 in
    let z = get_or text (at + 2) 0 in
    let is = e ∙ three_value x y z p.0 p.1 p.2.0 p.2.1 p.5 in
    let bytes = three_bytes x y z p.0 p.1 p.2.0 p.2.1 p.3.0 p.3.1 p.4 in
    rw (is, bytes, three text at room) (three_scalar x y z p.0 p.1 p.2.0 p.2.1 p.5, (refl, (refl, (refl, tt))), refl)

abbrev left2 : Bool → Bool → ℕ
left2 b c = cond b (cond c 2 1) 0

abbrev reach_of : List ℕ → ℕ → ℕ → ℕ
reach_of text at k = left2 (is_continuation (get_or text (at + k) 0)) (is_continuation (get_or text (at + k + 1) 0))

-- if a continuation byte is of no character before it, it is after the bytes that are read
stops : (text : List ℕ) (at used k : ℕ) → AreComplete text at used → is_continuation (get_or text (at + k) 0) ≡ true
    → (IsFollowing text at k → ⊥) → k < used ⊎ used ≤ k → used ≤ k
stops text at used k w b never (inl l) = absurd (never (w.behind k l b))
stops text at used k w b never (inr l) = l

not_after : (text : List ℕ) (at k : ℕ) → get_or text (at + k) 0 < 0xe0 → get_or text (at + k + 1) 0 < 0xc2
    → IsFollowing text at (k + 2) → ⊥
not_after text at k h l (inl (j, e, f)) =
    let place : at + j ≡ at + k + 1 = omega arith in
    let g : 0xc2 ≤ get_or text (at + k + 1) 0 = rw place at f in
    omega arith
not_after text at k h l (inr (j, e, f, b)) =
    let place : at + j ≡ at + k = omega arith in
    let g : 0xe0 ≤ get_or text (at + k) 0 = rw place at f in
    omega arith

not_next : (text : List ℕ) (at k : ℕ) → get_or text (at + k) 0 < 0xc2 → is_continuation (get_or text (at + k) 0) ≡ false
    → IsFollowing text at (k + 1) → ⊥
not_next text at k h l (inl (j, e, f)) =
    let place : at + j ≡ at + k = omega arith in
    let g : 0xc2 ≤ get_or text (at + k) 0 = rw place at f in
    omega arith
not_next text at k h l (inr (j, e, f, b)) =
    let place : at + k ≡ at + j + 1 = omega arith in
    clash _ b (rw place at l)

behind_lane : (text : List ℕ) (at used k v s : ℕ) (c d : Bool) → AreComplete text at used
    → ((i : ℕ) → Fits w8 (get_or text i 0)) → s ≡ 0 → is_continuation (get_or text (at + k) 0) ≡ true
    → is_continuation (get_or text (at + k + 1) 0) ≡ c → is_continuation (get_or text (at + k + 2) 0) ≡ d
    → IsLane text at v s (min used (k + left2 true c)) (min used (k + 1 + left2 c d))
behind_lane text at used k v s false d w fits e b f g = inl (e, omega arith)
behind_lane text at used k v s true false w fits e b f g = inl (e, omega arith)
behind_lane text at used k v s true true w fits e b f g =
    let x = behind_range (get_or text (at + k) 0) (fits (at + k)).fits b in
    let y = behind_range (get_or text (at + k + 1) 0) (fits (at + k + 1)).fits f in
    let place : at + (k + 2) ≡ at + k + 2 = omega arith in
    let end : used ≤ k + 2 = stops text at used (k + 2) w (rw place g)
    (not_after text at k (omega (arith, x.1)) (omega (arith, y.1))) (lt_or_le (k + 2) used) in
    inl (e, omega arith)

some_left : (d : Bool) → 1 ≤ left2 true d
some_left true = omega arith
some_left false = omega arith

one_next : (text : List ℕ) (at used k : ℕ) (c d : Bool) → AreComplete text at used → k < used → IsOneAt text (at + k)
    → is_continuation (get_or text (at + k) 0) ≡ false → is_continuation (get_or text (at + k + 1) 0) ≡ c
    → min used (k + 1 + left2 c d) ≡ min used (k + 0) + 1
one_next text at used k false d w l p b f = omega arith
one_next text at used k true d w l p b f =
    let place : at + (k + 1) ≡ at + k + 1 = omega arith in
    let end : used ≤ k + 1 =
    stops text at used (k + 1) w (rw place f) (not_next text at k (omega arith) b) (lt_or_le (k + 1) used) in
    let more : 1 ≤ left2 true d = some_left d in
    omega arith

two_next : (text : List ℕ) (at used k : ℕ) (d : Bool) → AreComplete text at used → k + 2 ≤ used → IsTwoAt text (at + k)
    → is_continuation (get_or text (at + k + 2) 0) ≡ d → min used (k + 1 + left2 true d) ≡ min used (k + 0) + 2
two_next text at used k false w l p g = omega arith
two_next text at used k true w l p g =
    let place : at + (k + 2) ≡ at + k + 2 = omega arith in
    let end : used ≤ k + 2 = stops text at used (k + 2) w (rw place g)
    (not_after text at k (omega (arith, p.1)) (omega (arith, p.2.1))) (lt_or_le (k + 2) used) in
    omega arith

first_lane : (text : List ℕ) (at used k v s : ℕ) → at + 18 ≤ length text → AreComplete text at used → k < 16 → k < used
    → v ≡ whole_value text (at + k) → s ≡ 1 → is_continuation (get_or text (at + k) 0) ≡ false
    → IsOneAt text (at + k) ⊎ ((IsTwoAt text (at + k) × (k + 2 ≤ used)) ⊎ (IsThreeAt text (at + k) × (k + 3 ≤ used)))
    → IsLane text at v s (min used (k + 0)) (min used
    (k + 1 + left2 (is_continuation (get_or text (at + k + 1) 0)) (is_continuation (get_or text (at + k + 2) 0))))
first_lane text at used k v s room w l u e f b (inl p) =
    let place : at + min used (k + 0) ≡ at + k = omega arith in
    let is = e ∙ one_is (get_or text (at + k) 0) (get_or text (at + k + 1) 0) (get_or text (at + k + 2) 0) p in
    inr (
      f,
      (
        1,
        one_next text at used k (is_continuation (get_or text (at + k + 1) 0))
            (is_continuation (get_or text (at + k + 2) 0)) w u p b refl,
        rw place (one_spelled text (at + k) v (omega arith) p is),
      ),
    )
first_lane text at used k v s room w l u e f b (inr (inl p)) =
    let place : at + min used (k + 0) ≡ at + k = omega arith in
    let t = p.0 in
    let is = e ∙ two_is (get_or text (at + k) 0) (get_or text (at + k + 1) 0) (get_or text (at + k + 2) 0) t.0 t.1 in
    let second = tail_behind (get_or text (at + k + 1) 0) t.2 in
    let next = two_next text at used k (is_continuation (get_or text (at + k + 2) 0)) w p.1 t refl in
    inr (
      f,
      (
        2,
        ap (λ c. min used (k + 1 + left2 c (is_continuation (get_or text (at + k + 2) 0)))) second ∙ next,
        rw place (two_spelled text (at + k) v (omega arith) t is),
      ),
    )
first_lane text at used k v s room w l u e f b (inr (inr p)) =
    let place : at + min used (k + 0) ≡ at + k = omega arith in
    let t = p.0 in
    let second = tail_behind (get_or text (at + k + 1) 0) t.2 in
    let third = tail_behind (get_or text (at + k + 2) 0) t.3 in
    let far : k + 3 ≤ used = p.1 in
    let next : min used (k + 1 + 2) ≡ min used (k + 0) + 3 = omega arith in
    inr (
      f,
      (
        3,
        ap₂ (λ c d. min used (k + 1 + left2 c d)) second third ∙ next,
        rw place (three_spelled text (at + k) v (omega arith) t e),
      ),
    )

-- 1 if a byte is among those that are read and is no continuation byte, and 0 otherwise
abbrev pub begins_if : Bool → Bool → ℕ
begins_if b u = cond b 0 (cond u 1 0)

-- nothing begins after what is read
pub not_read : (b : Bool) → begins_if b false ≡ 0
not_read true = refl
not_read false = refl

lane_of : (text : List ℕ) (at used k v s : ℕ) (b : Bool) → at + 18 ≤ length text
    → AreComplete text at used → ((i : ℕ) → Fits w8 (get_or text i 0)) → k < 16 → v ≡ whole_value text (at + k)
    → is_continuation (get_or text (at + k) 0) ≡ b → s ≡ begins_if b (ltb k used) → k < used ⊎ used ≤ k
    → IsLane text at v s (min used (k + left2 b (is_continuation (get_or text (at + k + 1) 0)))) (min used
    (k + 1 + left2 (is_continuation (get_or text (at + k + 1) 0)) (is_continuation (get_or text (at + k + 2) 0))))
lane_of text at used k v s b room w fits l e f g (inr h) =
    inl (g ∙ ap (begins_if b) (le-ltb k used h) ∙ not_read b, omega arith)
lane_of text at used k v s true room w fits l e f g (inl h) = behind_lane text at used k v s
    (is_continuation (get_or text (at + k + 1) 0)) (is_continuation (get_or text (at + k + 2) 0)) w fits g f refl refl
lane_of text at used k v s false room w fits l e f g (inl h) =
    first_lane text at used k v s room w l h e (g ∙ ap (begins_if false) (lt-ltb k used h)) f (w.firsts k l h f)

none_before : (text : List ℕ) (at : ℕ) → IsFollowing text at 0 → ⊥
none_before text at (inl (j, e, f)) = omega arith
none_before text at (inr (j, e, f, b)) = omega arith

at_first : (text : List ℕ) (at used : ℕ) (b c : Bool) → AreComplete text at used
    → is_continuation (get_or text at 0) ≡ b → 0 < used ⊎ used ≤ 0 → min used (0 + left2 b c) ≡ 0
at_first text at used b c w e (inr h) = omega arith
at_first text at used false c w e (inl h) = omega arith
at_first text at used true c w e (inl h) =
    let place : at + 0 ≡ at = omega arith in
    absurd (none_before text at (w.behind 0 h (rw place e)))

at_last : (text : List ℕ) (at used : ℕ) (b c : Bool) → AreComplete text at used
    → is_continuation (get_or text (at + 16) 0) ≡ b → is_continuation (get_or text (at + 16 + 1) 0) ≡ c
    → 16 < used ⊎ used ≤ 16 → 17 < used ⊎ used ≤ 17 → min used (16 + left2 b c) ≡ used
at_last text at used b c w e f (inr h) g = omega arith
at_last text at used false c w e f (inl h) g = absurd (clash _ (w.over 16 (lit≤ tt) h) e)
at_last text at used true true w e f (inl h) g = let m : used ≤ 18 = w.most in omega arith
at_last text at used true false w e f (inl h) (inr g) = omega arith
at_last text at used true false w e f (inl h) (inl g) =
    let place : at + 17 ≡ at + 16 + 1 = omega arith in
    absurd (clash _ (rw place at (w.over 17 (lit≤ tt) g)) f)

-- the characters that begin in the lanes of complete characters are one after the other
pub complete_starting : (text : List ℕ) (at used : ℕ) (vs : List ℕ) (starts_mask : ℕ) → at + 18 ≤ length text
    → ((i : ℕ) → Fits w8 (get_or text i 0)) → AreComplete text at used
    → ((k : ℕ) → k < 16 → get_or vs k 0 ≡ whole_value text (at + k)) → ((k : ℕ) → k < 16 → bit_at starts_mask k
    ≡ begins_if (is_continuation (get_or text (at + k) 0)) (ltb k used)) → AreStarting text at vs starts_mask used
complete_starting text at used vs starts_mask room fits w are bits =
    let here : at + 0 ≡ at = omega arith in
    record {
      reach = λ k. min used (k + reach_of text at k);
      begins = at_first text at used (is_continuation (get_or text (at + 0) 0))
          (is_continuation (get_or text (at + 0 + 1) 0)) w (rw here refl) (lt_or_le 0 used);
      ends = at_last text at used (is_continuation (get_or text (at + 16) 0))
          (is_continuation (get_or text (at + 16 + 1) 0)) w refl refl (lt_or_le 16 used) (lt_or_le 17 used);
      lanes = λ k l.
          let place : at + (k + 1) ≡ at + k + 1 = omega arith in
          let next : at + k + 1 + 1 ≡ at + k + 2 = omega arith in
          rw (place, next) (lane_of text at used k (get_or vs k 0) (bit_at starts_mask k)
          (is_continuation (get_or text (at + k) 0)) room w fits l (are k l) refl (bits k l) (lt_or_le k used));
    }
