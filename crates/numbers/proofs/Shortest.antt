-- The loop that writes a number's groups: some are written, and what is left of the number goes into the room that is left.
use mathlib.Core.Path.{◌≡◌, refl, ◌∙◌}
use Prim.Native.Nat.{ℕ, zero, suc, ◌+◌, ◌-◌, ◌/◌, ◌%◌, ◌<◌, ◌≤◌}
use native.Mathlib.Nat.{zero-add}
use native.Mathlib.Omega.{arith}
use mathlib.Core.List.{List, [], ◌∷◌, ◌++◌, append_assoc, append-nil}
use lib.Dec.{ltb}
use lib.ListN.{length, take, set, replicate, length-append}
use lib.Seq.{set_at, take_at}
use mir.Syntax.{w64}
use mir.Val.{Fits}
use borrow.Author.Tests.{lt-ltb, le-ltb}
use Rattle.base.proofs.Cases.{cond_both}
use Rattle.numbers.specs.declared.ShortForm.{ShortForm}
use Rattle.numbers.specs.Groups.{found, done, number_from, groups_of, number_bytes, Writes, ReadsBack}
use Rattle.numbers.proofs.Enough.{top}
use Rattle.numbers.proofs.Only.{one_form}

-- so many groups written, all but the last of the number's; `more` groups may follow the next one
pub record Grouping (v : ℕ) (bytes : List ℕ) (count left : ℕ) : Type 0 where
  pub more : ℕ
  pub groups : List ℕ
  pub held : bytes ≡ groups ++ replicate (suc more) 0
  pub counted : length groups ≡ count
  pub room : count + suc more ≡ 10
  pub low : left < top more
  pub whole : number_bytes v ≡ groups ++ groups_of (suc more) left

pub group-begin : (v : ℕ) → Fits w64 v → Grouping v (replicate 10 0) 0 v
unfolding top
group-begin v h = record {
  more = 9;
  groups = [];
  held = refl;
  counted = refl;
  room = refl;
  low = omega (arith, h);
  whole = refl;
}

module _ (v : ℕ) (bytes : List ℕ) (count left : ℕ) (g : Grouping v bytes count left) where
  pub group-place : count < 10
  group-place = omega (arith, g.room)

  pub group-again : 128 ≤ left → Grouping v (set bytes count (left % 128 + 128)) (count + 1) (left / 128)
  unfolding top groups_of
  group-again h = go g.more g.held g.room g.low g.whole
    where
      go : (k : ℕ) → bytes ≡ g.groups ++ replicate (suc k) 0 → count + suc k ≡ 10 → left < top k → number_bytes v ≡ g.groups ++ groups_of (suc k) left
          → Grouping v (set bytes count (left % 128 + 128)) (count + 1) (left / 128)
      go zero held room low whole = absurd (omega (arith, low, h))
      go (suc k) held room low whole =
          let b : ℕ = left % 128 + 128 in
          record {
            more = k;
            groups = g.groups ++ b ∷ [];
            held = rw (held, set_at g.groups 0 (replicate (suc k) 0) b count g.counted, append_assoc g.groups (b ∷ []) (replicate (suc k) 0));
            counted = rw (length-append, g.counted);
            room = omega (arith, room);
            low = omega (arith, low);
            whole = whole ∙ rw (le-ltb left 128 h, append_assoc g.groups (b ∷ []) (groups_of (suc k) (left / 128)));
          }

  pub group-done : left < 128 → Writes v (record { bytes = set bytes count left; count = count + 1 })
  unfolding groups_of
  group-done h =
      let w : number_bytes v ≡ g.groups ++ left ∷ [] = g.whole ∙ rw (lt-ltb left 128 h) in
      let l : length (number_bytes v) ≡ count + 1 = rw (w, length-append, g.counted) in
      let r : 10 - (count + 1) ≡ g.more = omega (arith, g.room) in
      record {
        count = rw l;
        bytes = rw (l, r, w, g.held, set_at g.groups 0 (replicate g.more 0) left count g.counted, append_assoc g.groups (left ∷ []) (replicate g.more 0));
      }

-- so many of the bytes are those of the number, and they are at most ten

pub number-first : (v : ℕ) (r : ShortForm) → Writes v r → take r.count r.bytes ≡ number_bytes v
number-first v r w = rw (w.bytes, w.count) (take_at (number_bytes v) (replicate (10 - length (number_bytes v)) 0) (length (number_bytes v)) refl)

groups-most : (k v : ℕ) → length (groups_of k v) ≤ k
unfolding groups_of
groups-most zero v = omega arith
groups-most (suc k) v =
    cond_both (λ (l : List ℕ). length l ≤ suc k) (ltb v 128) (v ∷ []) ((v % 128 + 128) ∷ groups_of k (v / 128)) (omega arith) (omega (arith, groups-most k (v / 128)))

pub number-most : (v : ℕ) → length (number_bytes v) ≤ 10
number-most v = groups-most 10 v

-- and so many of the bytes read to the number
pub writes-back : (v : ℕ) (r : ShortForm) → Fits w64 v → Writes v r → ReadsBack v r
writes-back v r h w =
    let q : number_from 0 (number_bytes v ++ []) ≡ found done v (0 + length (number_bytes v)) = one_form.its-groups 0 v [] (omega (arith, h)) in
    rw (number-first v r w, w.count) (rw (append-nil (number_bytes v), zero-add) at q)

pub ruleset grouping = (group-begin, group-place, group-again)
