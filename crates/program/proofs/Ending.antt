-- What a program comes to: its text was printed, or the input could not be read.
use mathlib.Core.Path.{◌≡◌}
use Prim.Native.Nat.{ℕ}
use native.Mathlib.Omega.{arith}
use mathlib.Core.List.{List}
use lib.ListN.{length, take}
use Rattle.std.specs.Prelude.{Result, Ok, Err, IsErr}
use Rattle.std.specs.Result.{IsErrAnd}
use Rattle.program.specs.declared.Ended.{Ended}
use Rattle.program.specs.declared.Unread.{Unread}
use Rattle.program.specs.Input.{most_read, AreFirst, Prints, EndsSo}
use Rattle.script.specs.Whole.{Script}

module _ (says : Script → List ℕ) (blank space : List ℕ) (b : most_read ≡ length blank) (l : length space ≡ length blank) where
  pub not-read : (u : Unread) (r : Result Ended Unread) → AreFirst u.read space → IsErr r × IsErrAnd r (λ e. e ≡ u) → EndsSo says r
  not-read u (Ok ended) k q = absurd q.1
  not-read u (Err e) k q = rw q.1 (record {
    input = take u.read space;
    read-are = k.1;
    few = omega (arith, b, l, k.0, k.1);
    printed = tt;
  })

  pub ended : (read written : ℕ) → AreFirst read space → Prints says (take read space) written → EndsSo says (Ok (record { read = read; written = written }))
  ended read written k p = record {
    input = take read space;
    read-are = k.1;
    few = omega (arith, b, l, k.0, k.1);
    printed = p;
  }
