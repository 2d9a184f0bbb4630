-- `sound::Made::with` meets its contract.
use native.Mathlib.Omega.{arith}
use mathlib.Core.Path.{◌≡◌}
use lib.ListN.{length}
use Rattle.sound.proofs.Tags.{told-also}
use borrow.Author.Rules.{rules}
use Rattle.sound.proofs.Made.with.Goals as goal

pub returns : goal.returns
returns c = let long : length c.args.self.0 ≡ 65 = search rules in
    told-also c.args.self c.args.t (omega (arith, c.requires))
