use Rattle.std.proofs.Common.{ℕ, List, refl, sym, ap, subst, ◌∙◌}
use Rattle.kdb_places.specs.Places.{replaced}
use Rattle.primary_core.proofs.Filled.{filled_open, filled_state}
use Rattle.primary_core.proofs.Whole.{written_as}
use Rattle.primary_core.proofs.primary.Primary.fill_with.Goals as goal
use Rattle.primary_core.specs.Opened.{Opened}
use Rattle.row_keys.specs.Sound.{HasState as HasStateOf, ShowsValid, judged}
use Rattle.store_files.specs.Kept.{place_kept}

pub invariant_of-self : goal.invariant_of-self
invariant_of-self g c =
    filled_open (record {
      kept = c.self.inside.database;
      masters = c.self.inside.masters;
      dumps = c.self.inside.dumps;
      room = c.self.inside.room;
    })
    (record {
      kept = c.replace.new.self;
      masters = c.args.masters;
      dumps = c.self.inside.dumps;
      room = c.self.inside.room;
    }) c.args.rows c.args.base c.args.masters
    c.self.invariant
    (subst (λ (x : Opened). HasStateOf (judged c.args.masters x.kept.realm c.args.base.time.secs) c.args.rows
    c.args.base) (sym c.self.view_is) c.requires.shown)
    (c.in-Ok.ensures.place ∙ ap (λ (x : List ℕ). replaced x c.args.rows c.args.base (place_kept c.self.inside.database))
    (c.requires.realm ∙ ap (λ (x : Opened). x.kept.realm) (sym c.self.view_is)))
    refl refl refl

pub returns-in-Ok-clause-state : goal.returns-in-Ok-clause-state
returns-in-Ok-clause-state g c t shows =
    filled_state (record {
      kept = c.self.inside.database;
      masters = c.self.inside.masters;
      dumps = c.self.inside.dumps;
      room = c.self.inside.room;
    })
    (record {
      kept = c.replace.new.self;
      masters = c.args.masters;
      dumps = c.self.inside.dumps;
      room = c.self.inside.room;
    }) c.args.rows c.args.base c.args.masters t
    (subst (λ (x : Opened). ShowsValid (judged c.args.masters x.kept.realm c.args.base.time.secs) c.args.rows
    c.args.base t) (sym c.self.view_is) shows)
    (c.in-Ok.ensures.place ∙ ap (λ (x : List ℕ). replaced x c.args.rows c.args.base (place_kept c.self.inside.database))
    (c.requires.realm ∙ ap (λ (x : Opened). x.kept.realm) (sym c.self.view_is)))
    refl

pub returns-in-Ok-clause-written : goal.returns-in-Ok-clause-written
returns-in-Ok-clause-written g c = λ t. written_as c.replace.new.self
    (replaced c.args.realm c.args.rows c.args.base (place_kept c.self.inside.database)) c.args.base
    (g.D.Disk.view c.replace.new.disk) c.in-Ok.ensures.place (c.in-Ok.ensures.written t)
