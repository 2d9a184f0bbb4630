-- `lines::put_registers` meets its contract: each register behind the ones before.
use mathlib.Core.Path.{◌≡◌}
use native.Mathlib.Omega.{arith}
use borrow.Author.Rules.{rules}
use lib.ListN.{length, drop, drop_of_length-le}
use lib.Seq.{drop-cons}
use Rattle.lines.proofs.Looping.{going-none, going_more, going-all}
use Rattle.lines.specs.Lines.{register_text}
use Rattle.lines.proofs.put_registers.Goals as goal

pub loop-i-init : goal.loop-i-init
loop-i-init c = going-none register_text (λ n. drop n c.args.rs) c.args.page.now

pub loop-i-preserved : goal.loop-i-preserved
loop-i-preserved c =
    let rs = c.args.rs in
    let whole : length rs ≡ 32 = search rules in
    going_more register_text (λ n. drop n rs) _ c.loop-i.invariant (drop-cons rs c.loop-i.i _ (omega arith)) c.put_register.ensures

pub returns : goal.returns
returns c =
    let rs = c.args.rs in
    let whole : length rs ≡ 32 = search rules in
    going-all register_text (λ n. drop n rs) _ c.loop-i.invariant (drop_of_length-le rs {i = c.loop-i.i} (omega arith)) (omega arith)
