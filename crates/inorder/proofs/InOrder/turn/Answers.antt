-- `inorder::InOrder::turn` meets its contract.
use mathlib.Core.Path.{refl, ap, ◌∙◌}
use native.Mathlib.Omega.{arith}
use Rattle.std.specs.Prelude.{Ok}
use Rattle.std.proofs.lemmas.Result.{err_from_is_err_and}
use Rattle.inorder.proofs.Running.{no_instruction_lem, inside, registers_in_range, turned, jump_turns, load_turns, store_turns}
use Rattle.inorder.proofs.InOrder.turn.Goals as goal

pub returns-in_err-r : goal.returns-in_err-r
returns-in_err-r c =
    let p = err_from_is_err_and c.from_residual.result c.from_residual.ensures.1 in
    rw (p.1, p.2) (no_instruction_lem c.args.program.now c.requires c.args.self.now c.args.memory.now c.decode.ensures c.in_err-r.was)

pub put-requires-clause-register : goal.put-requires-clause-register
put-requires-clause-register c = registers_in_range c.args.program.now c.requires c.args.self.now c.decode.ensures (c.in_ok-r.was ∙ ap Ok c.in-Loadc.is)

pub put-requires-clause-inside : goal.put-requires-clause-inside
put-requires-clause-inside c = inside c.args.program.now c.requires c.args.self.now c.decode.ensures c.in_ok-r.was

pub put-requires-in-Loadpc-clause-register : goal.put-requires-in-Loadpc-clause-register
put-requires-in-Loadpc-clause-register c = registers_in_range c.args.program.now c.requires c.args.self.now c.decode.ensures (c.in_ok-r.was ∙ ap Ok c.in-Loadpc.is)

pub put-requires-in-Loadpc-clause-inside : goal.put-requires-in-Loadpc-clause-inside
put-requires-in-Loadpc-clause-inside c = inside c.args.program.now c.requires c.args.self.now c.decode.ensures c.in_ok-r.was

pub held-requires : goal.held-requires
held-requires c = (registers_in_range c.args.program.now c.requires c.args.self.now c.decode.ensures (c.in_ok-r.was ∙ ap Ok c.in-Op.is)).1

pub held-requires-in-Op : goal.held-requires-in-Op
held-requires-in-Op c = (registers_in_range c.args.program.now c.requires c.args.self.now c.decode.ensures (c.in_ok-r.was ∙ ap Ok c.in-Op.is)).2

pub put-requires-in-Op-clause-register : goal.put-requires-in-Op-clause-register
put-requires-in-Op-clause-register c = (registers_in_range c.args.program.now c.requires c.args.self.now c.decode.ensures (c.in_ok-r.was ∙ ap Ok c.in-Op.is)).0

pub put-requires-in-Op-clause-inside : goal.put-requires-in-Op-clause-inside
put-requires-in-Op-clause-inside c = inside c.args.program.now c.requires c.args.self.now c.decode.ensures c.in_ok-r.was

pub held-requires-in-Jz : goal.held-requires-in-Jz
held-requires-in-Jz c = (registers_in_range c.args.program.now c.requires c.args.self.now c.decode.ensures (c.in_ok-r.was ∙ ap Ok c.in-Jz.is)).0

pub held-requires-in-Jz-2 : goal.held-requires-in-Jz-2
held-requires-in-Jz-2 c = (registers_in_range c.args.program.now c.requires c.args.self.now c.decode.ensures (c.in_ok-r.was ∙ ap Ok c.in-Jz.is)).1

pub jump-requires : goal.jump-requires
jump-requires c = inside c.args.program.now c.requires c.args.self.now c.decode.ensures c.in_ok-r.was

pub held-requires-in-Load : goal.held-requires-in-Load
held-requires-in-Load c = (registers_in_range c.args.program.now c.requires c.args.self.now c.decode.ensures (c.in_ok-r.was ∙ ap Ok c.in-Load.is)).1

pub put-requires-in-Load-clause-register : goal.put-requires-in-Load-clause-register
put-requires-in-Load-clause-register c = (registers_in_range c.args.program.now c.requires c.args.self.now c.decode.ensures (c.in_ok-r.was ∙ ap Ok c.in-Load.is)).0

pub put-requires-in-Load-clause-inside : goal.put-requires-in-Load-clause-inside
put-requires-in-Load-clause-inside c = inside c.args.program.now c.requires c.args.self.now c.decode.ensures c.in_ok-r.was

pub held-requires-in-Store : goal.held-requires-in-Store
held-requires-in-Store c = (registers_in_range c.args.program.now c.requires c.args.self.now c.decode.ensures (c.in_ok-r.was ∙ ap Ok c.in-Store.is)).0

pub held-requires-in-Store-2 : goal.held-requires-in-Store-2
held-requires-in-Store-2 c = (registers_in_range c.args.program.now c.requires c.args.self.now c.decode.ensures (c.in_ok-r.was ∙ ap Ok c.in-Store.is)).1

pub overflow_add-self : goal.overflow_add-self
overflow_add-self c = let h =
    inside c.args.program.now c.requires c.args.self.now c.decode.ensures c.in_ok-r.was in omega arith

pub returns-in-Loadc : goal.returns-in-Loadc
returns-in-Loadc c = rw c.put.ensures (turned c.args.program.now c.requires c.args.self.now c.decode.ensures (c.in_ok-r.was ∙ ap Ok c.in-Loadc.is) refl refl refl (λ f. f))

pub returns-in-Loadpc : goal.returns-in-Loadpc
returns-in-Loadpc c = rw c.put-in-Loadpc.ensures (turned c.args.program.now c.requires c.args.self.now c.decode.ensures (c.in_ok-r.was ∙ ap Ok c.in-Loadpc.is) refl refl refl (λ f. f))

pub returns-in-Op : goal.returns-in-Op
returns-in-Op c =
    rw (c.put-in-Op.ensures, c.operate-v.ensures, c.held.ensures, c.held-in-Op.ensures)
    (turned c.args.program.now c.requires c.args.self.now c.decode.ensures (c.in_ok-r.was ∙ ap Ok c.in-Op.is) refl refl refl (λ f. f))

pub returns-in_err-self-in-Jz : goal.returns-in_err-self-in-Jz
returns-in_err-self-in-Jz c =
    let p = err_from_is_err_and c.from_residual-in_err-self-in-Jz.result c.from_residual-in_err-self-in-Jz.ensures.1 in
    rw (p.1, p.2) (jump_turns c.args.program.now c.requires c.args.self.now c.decode.ensures (c.in_ok-r.was ∙ ap Ok c.in-Jz.is) c.held-in-Jz.ensures c.held-in-Jz-2.ensures c.jump.ensures c.in_err-self-in-Jz.was refl refl)

pub returns-in_ok-self-in-Jz : goal.returns-in_ok-self-in-Jz
returns-in_ok-self-in-Jz c =
    jump_turns c.args.program.now c.requires c.args.self.now c.decode.ensures (c.in_ok-r.was ∙ ap Ok c.in-Jz.is) c.held-in-Jz.ensures c.held-in-Jz-2.ensures c.jump.ensures c.in_ok-self-in-Jz.was refl refl

pub returns-in_err-v-in-Load : goal.returns-in_err-v-in-Load
returns-in_err-v-in-Load c =
    let p = err_from_is_err_and c.from_residual-in_err-v-in-Load.result c.from_residual-in_err-v-in-Load.ensures.1 in
    rw (p.1, p.2) (load_turns c.args.program.now c.requires c.args.self.now c.decode.ensures (c.in_ok-r.was ∙ ap Ok c.in-Load.is) c.held-in-Load.ensures c.read_at.ensures c.in_err-v-in-Load.was refl refl)

pub returns-in_ok-v-in-Load : goal.returns-in_ok-v-in-Load
returns-in_ok-v-in-Load c =
    rw c.put-in-Load.ensures
    (load_turns c.args.program.now c.requires c.args.self.now c.decode.ensures (c.in_ok-r.was ∙ ap Ok c.in-Load.is) c.held-in-Load.ensures c.read_at.ensures c.in_ok-v-in-Load.was refl refl)

pub returns-in_err-write_at-in-Store : goal.returns-in_err-write_at-in-Store
returns-in_err-write_at-in-Store c =
    let p = err_from_is_err_and c.from_residual-in_err-write_at-in-Store.result c.from_residual-in_err-write_at-in-Store.ensures.1 in
    rw (p.1, p.2) (store_turns c.args.program.now c.requires c.args.self.now c.decode.ensures (c.in_ok-r.was ∙ ap Ok c.in-Store.is) c.held-in-Store.ensures c.held-in-Store-2.ensures c.write_at.ensures c.in_err-write_at-in-Store.was)

pub returns-in_ok-write_at-in-Store : goal.returns-in_ok-write_at-in-Store
returns-in_ok-write_at-in-Store c =
    store_turns c.args.program.now c.requires c.args.self.now c.decode.ensures (c.in_ok-r.was ∙ ap Ok c.in-Store.is) c.held-in-Store.ensures c.held-in-Store-2.ensures c.write_at.ensures c.in_ok-write_at-in-Store.was
