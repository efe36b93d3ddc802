use Rattle.princ_rows.proofs.Begins.{put_stands, put_finished, princ_undone, princ_begun}
use Rattle.princ_rows.proofs.rows.Rows.begin_put_princ.Goals as goal

pub invariant_of-self-2 : goal.invariant_of-self-2
invariant_of-self-2 c =
    put_stands c.self.inside.princs.items c.begin_put_boxed.new.items.items c.self.inside.policies.items c.args.self.now
    c.self.view_is c.self.invariant c.args.princ c.in_ok-back.ensures.ok c.requires.row c.requires.room

pub returns-clause-ok : goal.returns-clause-ok
returns-clause-ok c =
    put_finished c.self.inside.princs.items c.begin_put_boxed.new.items.items c.self.inside.policies.items
    c.args.self.now c.self.view_is c.self.invariant c.in_ok-back.back c.args.princ c.in_ok-back.ensures.ok

pub returns-clause-back : goal.returns-clause-back
returns-clause-back c =
    princ_undone c.self.inside.princs.items c.begin_put_boxed.new.items.items c.self.inside.policies.items
    c.args.self.now c.self.view_is c.self.invariant c.in_ok-back.back c.in_ok-back.ensures.back

pub returns-clause-fits : goal.returns-clause-fits
returns-clause-fits c = princ_begun c.self.inside.princs.items c.begin_put_boxed.new.items.items
    c.self.inside.policies.items c.args.self.now c.self.view_is c.self.invariant c.in_ok-back.back
    c.in_ok-back.ensures.back c.in_ok-back.ensures.place
