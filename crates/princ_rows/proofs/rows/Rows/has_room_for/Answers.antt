use Rattle.princ_rows.specs.Effects.{effect}
use Rattle.princ_rows.specs.declared.entries.Op.TheVariants.{PutPrinc, DropPrinc, PutPolicy, DropPolicy}
use Rattle.princ_rows.proofs.Rooms.{put_room, put_no_room, policy_room, policy_no_room, drop_room, drop_policy_room}
use Rattle.princ_rows.proofs.Rooms.{room_for_any, at_op, of_op, at_rename, of_rename, few_rows, full_rows}
use Rattle.princ_rows.proofs.rows.Rows.has_room_for.Goals as goal

pub returns-then-princs-policies-lt-MAX_ROWS-clause-yes : goal.returns-then-princs-policies-lt-MAX_ROWS-clause-yes
returns-then-princs-policies-lt-MAX_ROWS-clause-yes c = λ _.
    room_for_any c.args.self.now c.args.op.now (few_rows c.args.self.now c.princs.result.now c.policies.result.now
    c.princs.ensures.value c.policies.ensures.value c.if-princs-policies-lt-MAX_ROWS.true)

pub returns-in-PutPrinc-clause-yes : goal.returns-in-PutPrinc-clause-yes
unfolding effect
returns-in-PutPrinc-clause-yes c = λ held.
    at_op c.args.self.now c.args.op.now (PutPrinc c.in-PutPrinc.princ) c.in-PutPrinc.is
    (put_room c.args.self.now c.princs.ensures.rows c.princs-in-PutPrinc.result.now c.as_slice.result.now
    c.in-PutPrinc.princ c.princs-in-PutPrinc.ensures.value c.as_slice.ensures (c.holds_key.ensures.yes held))

pub returns-in-PutPrinc-clause-no : goal.returns-in-PutPrinc-clause-no
unfolding effect
returns-in-PutPrinc-clause-no c = λ held room.
    put_no_room c.args.self.now c.princs.ensures.rows c.princs-in-PutPrinc.result.now c.as_slice.result.now
    c.in-PutPrinc.princ
    (full_rows c.args.self.now c.princs.result.now c.policies.result.now c.princs.ensures.value c.policies.ensures.value
    c.if-princs-policies-lt-MAX_ROWS.false)
    c.princs-in-PutPrinc.ensures.value c.as_slice.ensures (c.holds_key.ensures.no held)
    (of_op c.args.self.now c.args.op.now (PutPrinc c.in-PutPrinc.princ) c.in-PutPrinc.is room)

pub returns-in-Rename-clause-yes : goal.returns-in-Rename-clause-yes
returns-in-Rename-clause-yes c = λ held.
    at_rename c.args.self.now c.args.op.now c.in-Rename.old c.as_slice-in-Rename.result.now c.in-Rename.princ
    c.in-Rename.is c.as_slice-in-Rename.ensures (c.has_room_for_rename.ensures.yes held)

pub returns-in-Rename-clause-no : goal.returns-in-Rename-clause-no
returns-in-Rename-clause-no c = λ held room.
    c.has_room_for_rename.ensures.no held
    (of_rename c.args.self.now c.args.op.now c.in-Rename.old c.as_slice-in-Rename.result.now c.in-Rename.princ
    c.in-Rename.is c.as_slice-in-Rename.ensures room)

pub returns-in-PutPolicy-clause-yes : goal.returns-in-PutPolicy-clause-yes
unfolding effect
returns-in-PutPolicy-clause-yes c = λ held.
    at_op c.args.self.now c.args.op.now (PutPolicy c.in-PutPolicy.policy) c.in-PutPolicy.is
    (policy_room c.args.self.now c.princs.ensures.rows c.policies-in-PutPolicy.result.now
    c.name.result.now c.in-PutPolicy.policy c.policies-in-PutPolicy.ensures.value c.name.ensures.value
    (c.holds_key-in-PutPolicy.ensures.yes held))

pub returns-in-PutPolicy-clause-no : goal.returns-in-PutPolicy-clause-no
unfolding effect
returns-in-PutPolicy-clause-no c = λ held room.
    policy_no_room c.args.self.now c.princs.ensures.rows c.policies-in-PutPolicy.result.now c.name.result.now
    c.in-PutPolicy.policy
    (full_rows c.args.self.now c.princs.result.now c.policies.result.now c.princs.ensures.value c.policies.ensures.value
    c.if-princs-policies-lt-MAX_ROWS.false)
    c.policies-in-PutPolicy.ensures.value c.name.ensures.value (c.holds_key-in-PutPolicy.ensures.no held)
    (of_op c.args.self.now c.args.op.now (PutPolicy c.in-PutPolicy.policy) c.in-PutPolicy.is room)

pub returns-in-DropPrinc-clause-yes : goal.returns-in-DropPrinc-clause-yes
unfolding effect
returns-in-DropPrinc-clause-yes c = λ _. at_op c.args.self.now c.args.op.now (DropPrinc c.in-DropPrinc.field-0)
    c.in-DropPrinc.is (drop_room c.args.self.now c.princs.ensures.rows c.in-DropPrinc.field-0)

pub returns-in-DropPolicy-clause-yes : goal.returns-in-DropPolicy-clause-yes
unfolding effect
returns-in-DropPolicy-clause-yes c = λ _.
    at_op c.args.self.now c.args.op.now (DropPolicy c.in-DropPolicy.field-0) c.in-DropPolicy.is
    (drop_policy_room c.args.self.now c.princs.ensures.rows c.in-DropPolicy.field-0)
