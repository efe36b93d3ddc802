use Rattle.std.proofs.Common.{refl}
use Rattle.kadm_loading.proofs.Ends.{idle_leaves, idle_some, stops_unsaid}
use Rattle.kadm_loading.proofs.answering.load_dump.Goals as goal
use Rattle.kadm_loading.specs.Loads.{places_loaded}
use Rattle.primary_loading.specs.Opened.{place_of}

pub returns-in-Err-clause-stopped : goal.returns-in-Err-clause-stopped
returns-in-Err-clause-stopped g c = λ tells end to.
    let p = place_of c.args.primary.now in
    stops_unsaid end c.args.now p _ (idle_leaves p (places_loaded end c.args.now p) (g.D.Disk.view c.args.disk.now)
    (c.what_is_kept_is_recovered.ensures _ (c.requires.on tells)))

pub returns-in-Err-clause-moments : goal.returns-in-Err-clause-moments
returns-in-Err-clause-moments g c = λ tells end to.
    let p = place_of c.args.primary.now in
    idle_leaves p (places_loaded end c.args.now p) (g.D.Disk.view c.args.disk.now)
    (c.what_is_kept_is_recovered.ensures _ (c.requires.on tells))

pub returns-in-Err-clause-crash : goal.returns-in-Err-clause-crash
returns-in-Err-clause-crash g c = λ tells.
    idle_some (place_of c.args.primary.now) (g.D.Disk.view c.args.disk.now) _ refl
    (c.what_is_kept_is_recovered.ensures _ (c.requires.on tells))
