-- The first bytes of an input, one more than a script may have, read as all of it.
use mathlib.Core.Path.{◌≡◌, refl, sym, ap, ◌∙◌}
use mathlib.Core.Bool.{Bool, true, false}
use Prim.Native.Nat.{ℕ, ◌≤◌, ◌<◌}
use native.Mathlib.Omega.{arith}
use mathlib.Core.List.{List, []}
use lib.Dec.{ltb}
use lib.ListN.{length, take, length-take}
use Rattle.std.specs.Prelude.{Result, Ok, Err}
use Rattle.std.specs.Result.{result_unwrap_or}
use lib.Seq.{take_all}
use borrow.Author.Tests.{lt-ltb, ltb-true, ltb-false}
use Rattle.answer.specs.Numbers.{number_of}
use Rattle.answer.specs.declared.Refusal.{Refusal}
use Rattle.output.specs.Filling.{told, told_in, filled_by}
use Rattle.output.proofs.Filled.{filled-bytes, filled-room}
use Rattle.drive.specs.declared.Drive.{Drive}
use Rattle.drive.specs.State.{fresh_drive}
use Rattle.drive.specs.Events.{run_of}
use Rattle.discovery_answer.specs.Write.{discovery_of, discovery_bytes}
use Rattle.discovery_answer.proofs.Writing.{discovery-length}
use Rattle.script.specs.Whole.{Script, accepted, bad, read_script, most_script_bytes}
use Rattle.run.specs.declared.Unrun.{Unrun}
use Rattle.run.specs.Left.{left_in, left_by}
use Rattle.report.specs.Listing.{listing, most_listed}
use Rattle.report.proofs.Short.{never-short}
use Rattle.program.specs.Input.{most_read, discovery_after, Tells}

overlong : (s : List ℕ) → most_script_bytes < length s → read_script s ≡ bad 0
unfolding read_script
overlong s h = rw (lt-ltb most_script_bytes (length s) h) refl

pub cut-alike : (s : List ℕ) → read_script (take most_read s) ≡ read_script s
cut-alike s = go (ltb most_script_bytes (length s)) refl
  where
    go : (t : Bool) → ltb most_script_bytes (length s) ≡ t → read_script (take most_read s) ≡ read_script s
    go true q =
        let h = ltb-true most_script_bytes (length s) q in
        let l = length-take most_read s in
        overlong (take most_read s) (omega (arith, h, l)) ∙ sym (overlong s h)
    go false q = let h = ltb-false most_script_bytes (length s) q in ap read_script (take_all most_read s (omega (arith, h)))

-- bytes that fill a page with room for them are its first
on-page : (b page : List ℕ) (answer n : ℕ) (after : List ℕ) → length b ≤ length page → told answer n after ≡ filled_by b page → take n after ≡ b
on-page b page answer n after h f = (filled-bytes b page answer n after f (filled-room b page answer n after f h)).1

-- as many of them as the writer says, or none where it refuses
page-by : (b page : List ℕ) (r : Result ℕ Refusal) (after : List ℕ) → length b ≤ length page → told_in r after ≡ filled_by b page
    → take (result_unwrap_or r 0) after ≡ b
page-by b page (Ok n) after h f = on-page b page 0 n after h f
page-by b page (Err e) after h f = on-page b page (number_of e) 0 after h f

-- what is said of the bytes read is said of the whole input
tells : (says : Script → List ℕ) (bytes text : List ℕ) → text ≡ says (read_script bytes) → Tells says bytes text
tells says bytes text e input q = e ∙ ap says (ap read_script q ∙ cut-alike input)

-- what was listed on a page that every listing fits
pub lists : (bytes lent out : List ℕ) (r : Result ℕ Refusal) (n : ℕ) → most_listed ≤ length lent → told_in r out ≡ filled_by (listing (read_script bytes)) lent
    → n ≡ result_unwrap_or r 0 → Tells listing bytes (take n out)
lists bytes lent out r n h e k =
    tells listing bytes (take n out)
    (ap (λ (m : ℕ). take m out) k ∙ page-by (listing (read_script bytes)) lent r out (omega (arith, h, never-short bytes)) e)

-- the discovery answer, on a page that it fits, and of a bad script none
module _ (bytes : List ℕ) (r : Result Drive Unrun) (left : left_in r ≡ left_by (read_script bytes)) where
  pub tells_none : (u : Unrun) (page : List ℕ) → r ≡ Err u → Tells discovery_after bytes (take 0 page)
  tells_none u page q = tells discovery_after bytes [] (go (read_script bytes) (ap left_in (sym q) ∙ left))
    where
      go : (o : Script) → left_in (Err u) ≡ left_by o → [] ≡ discovery_after o
      go (accepted capacity bands sensors es) q = let n : ◌≡◌ {A = ℕ} 10 0 = cc in absurd (omega (arith, n))
      go (bad at) q = refl

  pub tells-discovery : (drive : Drive) (lent page : List ℕ) (w : Result ℕ Refusal) (n : ℕ) → r ≡ Ok drive → discovery_bytes ≤ length lent
      → told_in w page ≡ filled_by (discovery_of drive) lent → n ≡ result_unwrap_or w 0 → Tells discovery_after bytes (take n page)
  tells-discovery drive lent page w n q h f k =
      tells discovery_after bytes (take n page) (ap (λ (m : ℕ). take m page) k ∙ whole ∙ go (read_script bytes) (ap left_in (sym q) ∙ left))
    where
      whole : take (result_unwrap_or w 0) page ≡ discovery_of drive
      whole = page-by (discovery_of drive) lent w page (omega (arith, h, discovery-length drive)) f

      go : (o : Script) → left_in (Ok drive) ≡ left_by o → discovery_of drive ≡ discovery_after o
      go (accepted capacity bands sensors es) q = let d : drive ≡ run_of (fresh_drive capacity bands sensors) es = cc in ap discovery_of d
      go (bad at) q = let n : ◌≡◌ {A = ℕ} 0 10 = cc in absurd (omega (arith, n))
