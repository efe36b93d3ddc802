use Rattle.std.proofs.Common.{◌≡◌, rules, refl, sym, subst}
use Rattle.std.specs.Prelude.{OnOk}
use Rattle.kdb_histories.specs.Seen.{reset_point}
use Rattle.kdb_model.specs.Laws.{at_point}
use Rattle.primary_core.proofs.Begun.{any_begun, any_begun_state, begun_at}
use Rattle.primary_core.proofs.primary.Primary.begin_log.Goals as goal
use Rattle.primary_core.specs.Opened.{HasState, Opened, place_of}
use Rattle.store_files.specs.Kept.{place_kept}

pub invariant_of-self : goal.invariant_of-self
invariant_of-self g c =
    let made : OnOk c.reset.result
    (place_kept c.reset.new.self ≡ begun_at c.args.now (place_kept c.self.inside.database)) = search rules in
    any_begun (record { later = c.valid_later.ensures.later; point = c.valid_later.ensures.point }) (record {
      kept = c.self.inside.database;
      masters = c.self.inside.masters;
      dumps = c.self.inside.dumps;
      room = c.self.inside.room;
    })
    (record {
      kept = c.reset.new.self;
      masters = c.self.inside.masters;
      dumps = c.self.inside.dumps;
      room = c.self.inside.room;
    }) c.args.now c.holds_moment.ensures (record { masters = refl; room = refl; dumps = refl }) _ c.reset.result
    c.self.invariant made c.reset.ensures.err

pub returns-clause-state : goal.returns-clause-state
returns-clause-state g c = λ s has.
    let made : OnOk c.reset.result
    (place_kept c.reset.new.self ≡ begun_at c.args.now (place_kept c.self.inside.database)) = search rules in
    subst (λ (x : Opened). OnOk c.reset.result (HasState (record {
      kept = c.reset.new.self;
      masters = c.self.inside.masters;
      dumps = c.self.inside.dumps;
      room = c.self.inside.room;
    }) (at_point (reset_point c.args.now (place_of x)) s))) c.self.view_is
    (any_begun_state (record { later = c.valid_later.ensures.later; point = c.valid_later.ensures.point }) (record {
      kept = c.self.inside.database;
      masters = c.self.inside.masters;
      dumps = c.self.inside.dumps;
      room = c.self.inside.room;
    })
    (record {
      kept = c.reset.new.self;
      masters = c.self.inside.masters;
      dumps = c.self.inside.dumps;
      room = c.self.inside.room;
    }) c.args.now c.holds_moment.ensures (record { masters = refl; room = refl; dumps = refl }) _ c.reset.result s
    (subst (λ (x : Opened). HasState x s) (sym c.self.view_is) has) made)
