-- The walk over the descriptors: what one of them adds to what is shown, and what the loop knows.
use mathlib.Core.Path.{◌≡◌, refl, sym, ap, ◌∙◌}
use Prim.Native.Nat.{ℕ, zero, suc, ◌-◌, ◌%◌, ◌<◌, ◌≤◌}
use native.Mathlib.Omega.{arith}
use mathlib.Core.Bool.{Bool, true, false, cond, ◌||◌}
use mathlib.Core.List.{List, [], ◌∷◌}
use lib.Dec.{eqb}
use lib.ListN.{length, get_or, take, drop, length-drop}
use lib.Seq.{length-take-le, take_all, get_or-drop, get_or-take}
use borrow.Author.Tests.{eq-eqb, ne_eqb, eqb-true, lt-ltb, le-ltb}
use Rattle.base.specs.Lists.{any}
use Rattle.base.proofs.Cases.{and_left, and_right, or-second}
use Rattle.std.specs.Prelude.{Ok, Err}
use Rattle.answer.specs.declared.Refusal.TheVariants.{ShortAnswer}
use Rattle.discovery_answer.specs.declared.Features.{Features}
use Rattle.discovery_answer.specs.Format.{Descriptor, locking_code, ranges_code, flags_in}
use Rattle.discovery_answer.specs.Read.{
  descriptor_in,
  width_in,
  Descriptors,
  whole,
  past_end,
  before,
  descriptors_up_to,
  descriptors_in,
  is_feature,
  is_there,
  first_flags,
  features_of,
}
use Rattle.discovery_answer.specs.Parts.{shown_after, walked}

pub none-shown : record { locking = false; ranges = false; flags = 0 } ≡ features_of []
unfolding any first_flags
none-shown = refl

-- ---- whether a descriptor is of a feature

content-long : (s : List ℕ) → width_in s ≤ length s → length (descriptor_in s).content ≡ get_or s 3 0
content-long s room = length-take-le (get_or s 3 0) (drop 4 s) (omega (arith, room, length-drop 4 s))

-- the flags of the Locking feature are the first byte of its content
module _ (s : List ℕ) (t : Bool) (room : width_in s ≤ length s) (p : t ≡ is_feature locking_code (descriptor_in s)) (h : t ≡ true) where
  long : get_or s 3 0 ≡ 12
  long =
      let d = descriptor_in s in
      sym (content-long s room)
      ∙ eqb-true (length d.content) 12 (and_right (eqb d.version 1) _ (and_right (eqb d.code 2) _ (sym p ∙ h)))

  pub flags-first : get_or s 4 0 % 64 ≡ flags_in (get_or (descriptor_in s).content 0 0)
  flags-first = ap flags_in (sym (get_or-take (get_or s 3 0) (drop 4 s) 0 0 (omega (arith, long)) ∙ get_or-drop 4 s 0 0))

-- ---- one descriptor more

-- no descriptor is of both features
not-both : (f : Descriptor) → is_feature locking_code f ≡ true → is_feature ranges_code f ≡ false
not-both f h =
    let c : f.code ≡ 2 = eqb-true f.code 2 (and_left (eqb f.code 2) _ h) in
    rw (ne_eqb f.code 1025 (λ q. absurd (omega (arith, c, q))))

module _ (f : Features) (d : Descriptor) (l r : Bool) (p : is_feature locking_code d ≡ l) (q : is_feature ranges_code d ≡ r) (fs : List Descriptor) where
  one_more : shown_after f (d ∷ fs) ≡ record {
    locking = f.locking || (l || is_there locking_code fs);
    ranges = f.ranges || (r || is_there ranges_code fs);
    flags = cond f.locking f.flags (cond (l || is_there locking_code fs) (cond l (flags_in (get_or d.content 0 0)) (first_flags fs)) f.flags);
  }
  unfolding any first_flags
  one_more = rw (p, q)

module _ (f : Features) (s : List ℕ) (t : Bool) (p : t ≡ is_feature locking_code (descriptor_in s)) where
  is-locking : t ≡ true → is_feature locking_code (descriptor_in s) ≡ true
  is-locking h = sym p ∙ h

  pub noted_again : t ≡ true → f.locking ≡ true → (fs : List Descriptor) → shown_after f fs ≡ shown_after f (descriptor_in s ∷ fs)
  noted_again h e fs =
      let m = one_more f (descriptor_in s) true false (is-locking h) (not-both (descriptor_in s) (is-locking h)) fs in
      rw (m, e)

  pub noted_locking : width_in s ≤ length s → t ≡ true → f.locking ≡ false → (fs : List Descriptor)
      → shown_after (record { locking = true; ranges = f.ranges; flags = get_or s 4 0 % 64 }) fs ≡ shown_after f (descriptor_in s ∷ fs)
  noted_locking room h e fs =
      let m = one_more f (descriptor_in s) true false (is-locking h) (not-both (descriptor_in s) (is-locking h)) fs in
      rw (m, e, flags-first s t room p h)

  module _ (u : Bool) (q : u ≡ is_feature ranges_code (descriptor_in s)) where
    pub noted_ranges : t ≡ false → u ≡ true → (fs : List Descriptor)
        → shown_after (record { locking = f.locking; ranges = true; flags = f.flags }) fs ≡ shown_after f (descriptor_in s ∷ fs)
    noted_ranges h k fs =
        let m = one_more f (descriptor_in s) false true (sym p ∙ h) (sym q ∙ k) fs in
        rw (m, or-second f.ranges true refl)

    pub noted_none : t ≡ false → u ≡ false → (fs : List Descriptor) → shown_after f fs ≡ shown_after f (descriptor_in s ∷ fs)
    noted_none h k fs = sym (one_more f (descriptor_in s) false false (sym p ∙ h) (sym q ∙ k) fs)

pub ruleset noting = (noted_again, noted_locking, noted_ranges, noted_none)

-- ---- the descriptors, one a turn

-- the first descriptor, where there is one and it does not run past the end; and where there is none or it does
module _ (s : List ℕ) where
  module _ (h : 0 < length s) where
    pub some_bytes : eqb (length s) 0 ≡ false
    some_bytes = ne_eqb (length s) 0 (λ q. absurd (omega (arith, h, q)))

    pub first-descriptor : (most : ℕ) → width_in s ≤ length s
        → descriptors_up_to (suc most) s ≡ before (descriptor_in s) (descriptors_up_to most (drop (width_in s) s))
    unfolding descriptors_up_to
    first-descriptor most r = rw (some_bytes, le-ltb (length s) (width_in s) r)

    pub first_past : (most : ℕ) → length s < width_in s → descriptors_up_to most s ≡ past_end
    unfolding descriptors_up_to
    first_past zero r = rw some_bytes
    first_past (suc most) r = rw (some_bytes, lt-ltb (length s) (width_in s) r)

  pub no-descriptor : (most : ℕ) → length s ≡ 0 → descriptors_up_to most s ≡ whole []
  unfolding descriptors_up_to
  no-descriptor zero h = rw (eq-eqb (length s) 0 h)
  no-descriptor (suc most) h = rw (eq-eqb (length s) 0 h)

-- a descriptor before others, in the walk
walked-before : (f g : Features) (d : Descriptor) (ds : Descriptors) → ((fs : List Descriptor) → shown_after g fs ≡ shown_after f (d ∷ fs))
    → walked f (before d ds) ≡ walked g ds
walked-before f g d (whole fs) h = ap (λ (x : Features). Ok x) (sym (h fs))
walked-before f g d past_end h = refl

or-false : (b : Bool) → (b || false) ≡ b
or-false true = refl
or-false false = refl

pub same-arms : (b : Bool) (n : ℕ) → cond b n n ≡ n
same-arms true n = refl
same-arms false n = refl

nothing-more : (f : Features) → shown_after f [] ≡ f
unfolding any
nothing-more f = rw (or-false f.locking, or-false f.ranges, same-arms f.locking f.flags)

-- what the loop knows where these bytes are left
pub record Walking (s : List ℕ) (features : Features) (rest : List ℕ) : Type 0 where
  pub most : ℕ
  pub enough : length rest ≤ most
  pub same : walked (features_of []) (descriptors_in s) ≡ walked features (descriptors_up_to most rest)

pub walk_begin : (s : List ℕ) (f : Features) → f ≡ features_of [] → Walking s f s
walk_begin s f e = record {
  most = length s;
  enough = omega arith;
  same = ap (λ (x : Features). walked x (descriptors_in s)) (sym e);
}

module _ (s : List ℕ) (f : Features) (rest : List ℕ) (width : ℕ) (w : Walking s f rest) (h : 0 < length rest) (e : width ≡ width_in rest) where
  pub walk_past : length rest < width → Err ShortAnswer ≡ walked (features_of []) (descriptors_in s)
  walk_past q = sym (w.same ∙ ap (walked f) (first_past rest h w.most (omega (arith, q, e))))

  module _ (g : Features) (r : width ≤ length rest)
      (n : (fs : List Descriptor) → shown_after g fs ≡ shown_after f (descriptor_in rest ∷ fs)) where
    one_on : (most : ℕ) → length rest ≤ suc most → walked (features_of []) (descriptors_in s) ≡ walked f (descriptors_up_to (suc most) rest)
        → Walking s g (drop width rest)
    one_on most k q = record {
      most = most;
      enough = omega (arith, k, e, length-drop width rest);
      same =
          q
          ∙ ap (walked f) (first-descriptor rest h most (omega (arith, r, e)))
          ∙ walked-before f g (descriptor_in rest) (descriptors_up_to most (drop (width_in rest) rest)) n
          ∙ ap (λ (i : ℕ). walked g (descriptors_up_to most (drop i rest))) (sym e);
    }

    after : Walking s g (drop width rest)
    after = go w.most w.enough w.same
      where
        go : (most : ℕ) → length rest ≤ most → walked (features_of []) (descriptors_in s) ≡ walked f (descriptors_up_to most rest)
            → Walking s g (drop width rest)
        go zero k q = absurd (omega (arith, h, k))
        go (suc most) k q = one_on most k q

    -- the rest after it, as a part
    pub walk_again : Walking s g (take (length rest - width) (drop width rest))
    walk_again = rw (take_all (length rest - width) (drop width rest) (omega (arith, length-drop width rest))) after

pub walk_done : (s : List ℕ) (f : Features) (rest : List ℕ) → Walking s f rest → length rest ≡ 0 → Ok f ≡ walked (features_of []) (descriptors_in s)
walk_done s f rest w h = ap (λ (x : Features). Ok x) (sym (nothing-more f)) ∙ sym (w.same ∙ ap (walked f) (no-descriptor rest w.most h))

pub ruleset walking = (walk_begin, walk_past, walk_again, walk_done)
