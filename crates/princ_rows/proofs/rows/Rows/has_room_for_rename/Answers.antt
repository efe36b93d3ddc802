use Rattle.std.proofs.Common.{sym, subst}
use Rattle.princ_rows.specs.Effects.{IsRoom}
use Rattle.princ_rows.proofs.Rooms.{put_room, put_no_room, rename_room, rename_is_put}
use Rattle.princ_rows.proofs.rows.Rows.has_room_for_rename.Goals as goal

pub returns-then-holds_key-clause-yes : goal.returns-then-holds_key-clause-yes
returns-then-holds_key-clause-yes c = λ _.
    rename_room c.args.self.now c.princs.ensures.rows c.princs.result.now c.args.princ.now c.args.old.now
    c.princs.ensures.value (c.holds_key.ensures.yes c.if-holds_key.true)

pub returns-clause-yes : goal.returns-clause-yes
returns-clause-yes c = λ held.
    subst IsRoom (sym (rename_is_put c.args.self.now c.princs.ensures.rows c.princs.result.now c.args.princ.now
    c.args.old.now c.princs.ensures.value (c.holds_key.ensures.no c.if-holds_key.false)))
    (put_room c.args.self.now c.princs.ensures.rows c.princs-2.result.now c.as_slice.result.now c.args.princ.now
    c.princs-2.ensures.value c.as_slice.ensures (c.holds_key-2.ensures.yes held))

pub returns-clause-no : goal.returns-clause-no
returns-clause-no c = λ held room.
    put_no_room c.args.self.now c.princs.ensures.rows c.princs-2.result.now c.as_slice.result.now c.args.princ.now
    c.requires c.princs-2.ensures.value c.as_slice.ensures (c.holds_key-2.ensures.no held)
    (subst IsRoom (rename_is_put c.args.self.now c.princs.ensures.rows c.princs.result.now c.args.princ.now
    c.args.old.now c.princs.ensures.value (c.holds_key.ensures.no c.if-holds_key.false)) room)
