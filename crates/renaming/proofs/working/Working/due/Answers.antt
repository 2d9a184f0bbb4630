-- `renaming::working::Working::due` meets its contract.
use mathlib.Core.Path.{sym, ap, ◌∙◌}
use mathlib.Core.Logic.{◌≢◌}
use native.Mathlib.Omega.{arith}
use Rattle.isa.specs.declared.Tag.{Tag}
use Rattle.rows.specs.Rows.{in_register}
use Rattle.rules.specs.Drain.{due_jump}
use Rattle.renaming.proofs.Emptying.{due_forward, due_commit, due_retire, due_op, due_jz, due-load, due-store}
use Rattle.renaming.proofs.working.Working.due.Goals as goal

pub returns-then-held_behind : goal.returns-then-held_behind
returns-then-held_behind c = due_forward c.self.invariant c.self.view_is c.requires c.kind.ensures c.in-0.is (sym c.held_behind.ensures ∙ c.if-held_behind.true)

pub returns-then-held_by_register : goal.returns-then-held_by_register
returns-then-held_by_register c = due_commit c.self.invariant c.self.view_is c.requires c.kind.ensures c.in-0.is (sym c.held_behind.ensures ∙ c.if-held_behind.false) (ap (λ (t : Tag). in_register t c.self.inside.registers) (sym c.tag.ensures) ∙ sym c.held_by_register.ensures ∙ c.if-held_by_register.true)

pub returns-else-held_by_register : goal.returns-else-held_by_register
returns-else-held_by_register c = due_retire c.self.invariant c.self.view_is c.requires c.kind.ensures c.in-0.is (sym c.held_behind.ensures ∙ c.if-held_behind.false) (ap (λ (t : Tag). in_register t c.self.inside.registers) (sym c.tag.ensures) ∙ sym c.held_by_register.ensures ∙ c.if-held_by_register.false)

pub returns-in-1 : goal.returns-in-1
returns-in-1 c = due_op c.self.invariant c.self.view_is c.requires c.kind.ensures c.in-1.is

pub returns-in-2 : goal.returns-in-2
returns-in-2 c = c.due_jump.ensures ∙ ap due_jump c.first.ensures ∙ due_jz c.self.invariant c.self.view_is c.requires c.kind.ensures c.in-2.is

pub returns-in-3 : goal.returns-in-3
returns-in-3 c = due-load c.self.invariant c.self.view_is c.requires c.kind.ensures c.in-3.is

pub returns-in_default : goal.returns-in_default
returns-in_default c =
    let k = c.kind.result in
    let n0 : k ≢ 0 = omega arith in
    let n1 : k ≢ 1 = omega arith in
    let n2 : k ≢ 2 = omega arith in
    let n3 : k ≢ 3 = omega arith in
    due-store c.self.invariant c.self.view_is c.requires c.kind.ensures n0 n1 n2 n3
