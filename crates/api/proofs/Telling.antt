-- What the called functions ensure, said of the numbers that are handed over.
use mathlib.Core.Path.{◌≡◌, refl, sym, ap, ◌∙◌}
use Prim.Native.Nat.{ℕ, ◌<◌, ◌≤◌}
use native.Mathlib.Omega.{arith}
use mathlib.Core.Bool.{Bool, true, false, cond}
use mathlib.Core.List.{List}
use lib.Dec.{eqb}
use lib.ListN.{length}
use borrow.Author.Tests.{ne_eqb}
use Rattle.std.specs.Prelude.{Result, Ok, Err}
use Rattle.base.proofs.Spliced.{spliced-over}
use Rattle.answer.specs.declared.Refusal.{Refusal}
use Rattle.answer.specs.Numbers.{number_of, answer_number}
use Rattle.answer.proofs.Injective.{refusal_number}
use Rattle.output.specs.Filling.{written_after, Told, told, told_in, filled_by, spliced_within}
use Rattle.output.proofs.Filled.{filled-short, filled-whole, put-fits}
use Rattle.token_writer.specs.Write.{elements_of, write_answer, Writes}
use Rattle.token_reader.specs.Format.{bytes_of}
use Rattle.drive.specs.declared.Fresh.{Fresh}
use Rattle.drive.specs.declared.Drive.{Drive}
use Rattle.drive.specs.State.{most_blocks, most_bands, most_sensors, header_fits, fresh_drive, Freshens}
use Rattle.drive.specs.Events.{Event, answer_of, Replies}
use Rattle.api.specs.Exports.{leaving, write_into, FreshTold, fresh_to, fresh_told, up_to_six, refused_anyway, answered, refused_event}

-- a refusal's number is not that of what is done
refused_is : (r : Refusal) → eqb (number_of r) 0 ≡ false
refused_is r = let h = refusal_number r in ne_eqb (number_of r) 0 (λ z. absurd (omega (arith, z, h)))

-- ---- an output that is written

-- what the token writer answers, told
wrote : (codes lent after : List ℕ) (r : Result ℕ Refusal) → Writes codes lent r after → told_in r after ≡ write_into codes lent
wrote codes lent after (Ok n) w =
    let a : 0 ≡ write_answer codes (length lent) = w.answer in
    let c : n ≡ written_after (write_answer codes (length lent)) (bytes_of (elements_of codes)) = w.count in
    let o = w.output in cc
wrote codes lent after (Err e) w =
    let n : number_of e ≡ write_answer codes (length lent) = w.answer in
    let b : eqb (write_answer codes (length lent)) 0 ≡ false = ap (λ (n : ℕ). eqb n 0) (sym n) ∙ refused_is e in
    let c : 0 ≡ written_after (write_answer codes (length lent)) (bytes_of (elements_of codes)) =
    ap (λ (t : Bool). cond t (length (bytes_of (elements_of codes))) 0) (sym b) in
    let o = w.output in cc

pub told-written : (codes lent after : List ℕ) (r : Result ℕ Refusal) (former : ℕ) (t : Told) → t ≡ leaving former (told_in r after)
    → Writes codes lent r after → t ≡ leaving former (write_into codes lent)
told-written codes lent after r former t e w = e ∙ ap (leaving former) (wrote codes lent after r w)

-- numbers that are handed over, or do not fit
module _ (former : ℕ) (codes lent : List ℕ) where
  pub hand-refused : (number : ℕ) → length lent < length codes → number ≡ 11 → told number former lent ≡ leaving former (filled_by codes lent)
  hand-refused number h e = ap (λ (n : ℕ). told n former lent) e ∙ ap (leaving former) (filled-short codes lent h)

  pub hand-told : (after : List ℕ) → length codes ≤ length lent → after ≡ spliced_within lent 0 codes → told 0 (length codes) after ≡ leaving former (filled_by codes lent)
  hand-told after h e =
      ap (leaving former) (filled-whole codes lent after h (spliced-over lent codes after (put-fits lent 0 codes after (omega arith) e)))

-- ---- a fresh drive

module _ (capacity bands sensors : ℕ) where
  abbrev of-drive : ℕ → Drive → FreshTold
  of-drive n d = fresh_to n d.capacity d.band_count d.sensor_count

  fresh-arms : (t : Bool)
      → of-drive (cond t 0 2) (cond t (fresh_drive capacity bands sensors) (fresh_drive 1 1 0)) ≡ cond t (fresh_to 0 capacity bands sensors) (fresh_to 2 1 1 0)
  unfolding fresh_drive
  fresh-arms true = refl
  fresh-arms false = refl

  pub fresh-told : (r : Fresh) (number : ℕ) → number ≡ answer_number r.answer → Freshens capacity bands sensors r
      → fresh_to number r.drive.capacity r.drive.band_count r.drive.sensor_count ≡ fresh_told capacity bands sensors
  fresh-told r number e f =
      ap (λ (n : ℕ). of-drive n r.drive) (e ∙ f.answer) ∙ ap (of-drive (cond (header_fits capacity bands sensors) 0 2)) f.drive
      ∙ fresh-arms (header_fits capacity bands sensors)

-- ---- one event

-- the number that an event gets whatever the script is: its answer on the greatest drive, where that comes no later than 6
module _ (e : Event) (made : Fresh) (r : Result ℕ Refusal) (after : Drive) (f : Freshens most_blocks most_bands most_sensors made)
    (h : Replies made.drive e r after) where
  greatest : made.drive ≡ fresh_drive most_blocks most_bands most_sensors
  unfolding header_fits
  greatest = f.drive

  anyway-by : (b : Bool) → up_to_six (answer_number r) ≡ b → cond b (answer_number r) 0 ≡ refused_anyway e
  unfolding refused_anyway
  anyway-by b q =
      ap (λ (x : Bool). cond x (answer_number r) 0) (sym q)
      ∙ ap (λ (n : ℕ). cond (up_to_six n) n 0) (h.answer ∙ ap (λ (d : Drive). answer_of d e) greatest)

  module _ (x : Refusal) (q : r ≡ Err x) (t : Bool) (k : t ≡ up_to_six (number_of x)) where
    early : up_to_six (answer_number r) ≡ t
    early = ap (λ (y : Result ℕ Refusal). up_to_six (answer_number y)) q ∙ sym k

    pub anyway : t ≡ true → number_of x ≡ refused_anyway e
    anyway z = sym (ap answer_number q) ∙ anyway-by true (early ∙ z)

    pub not-anyway : t ≡ false → 0 ≡ refused_anyway e
    not-anyway z = anyway-by false (early ∙ z)

  pub anyway-done : (n : ℕ) → r ≡ Ok n → 0 ≡ refused_anyway e
  anyway-done n q = sym (ap answer_number q) ∙ anyway-by true (ap (λ (y : Result ℕ Refusal). up_to_six (answer_number y)) q)

-- an event on a script that is bad
module _ (e : Event) (at place : ℕ) where
  unrun-by : (own : ℕ) → own ≡ refused_anyway e → (b : Bool) → eqb own 0 ≡ b → (stops : ℕ)
      → cond b (answered 10 stops at) (answered own stops place) ≡ refused_event 10 at e stops place
  unrun-by own h b q stops =
      ap (λ (x : Bool). cond x (answered 10 stops at) (answered own stops place)) (sym q)
      ∙ ap (λ (n : ℕ). cond (eqb n 0) (answered 10 stops at) (answered n stops place)) h

  pub unrun-refused : (r : Refusal) (number : ℕ) → number_of r ≡ refused_anyway e → number ≡ number_of r → (stops : ℕ)
      → answered number stops place ≡ refused_event 10 at e stops place
  unrun-refused r number h k stops = ap (λ (n : ℕ). answered n stops place) k ∙ unrun-by (number_of r) h false (refused_is r) stops

  pub unrun-placed : (number : ℕ) → 0 ≡ refused_anyway e → number ≡ 10 → (stops : ℕ) → answered number stops at ≡ refused_event 10 at e stops place
  unrun-placed number h k stops = ap (λ (n : ℕ). answered n stops at) k ∙ unrun-by 0 h true refl stops
