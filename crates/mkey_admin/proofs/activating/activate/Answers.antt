use Rattle.std.proofs.Common.{◌≡◌, None, Some, arith, refl, rules}
use Rattle.key_activation.specs.Activations.{active, with_activation}
use Rattle.mkey_admin.proofs.UsedMasters.{kvno_of, made_fits, use_inactive, used_comes}
use Rattle.mkey_admin.specs.KeptMasters.{kept_used}
use Rattle.mkey_admin.specs.Plans.{master_denied, version_unknown}
use Rattle.mkey_admin.proofs.activating.activate.Goals as goal

pub used_activations-requires : goal.used_activations-requires
used_activations-requires c = let is =
    kvno_of c.args.given.now.realm.now c.args.c.now c.requires.command in let from_one = is.from_one in omega arith

pub put-requires : goal.put-requires
put-requires c =
    let p = c.args.entry.now in
    let part = c.in_ok-part.part.now in
    let secs = c.use_secs-secs.result in
    let made_is : c.in_ok-made-in-Some.made ≡ kept_used (with_activation c.args.c.now.version secs part.activations) p =
    search rules in
    made_fits c.args.given.now c.args.c.now p part secs c.in_ok-made-in-Some.made c.requires.entry c.in_ok-part.ensures
    c.requires.command c.use_secs-secs.ensures.short made_is

pub returns-in-None : goal.returns-in-None
returns-in-None c =
    let g = c.args.given.now in
    let part = c.in_ok-part.part.now in
    let secs = c.use_secs-secs.result in
    let inactive : active (with_activation c.args.c.now.version secs part.activations) g.moment.secs ≡ None =
    search rules in
    use_inactive g c.args.c.now (version_unknown g c.args.c.now.version) (master_denied g) refl refl c.requires.front
    c.args.entry.now part c.requires.entry c.in_ok-part.ensures secs c.use_secs-secs.ensures.value inactive

pub returns-in_ok-masters-in-Some : goal.returns-in_ok-masters-in-Some
returns-in_ok-masters-in-Some c =
    let g = c.args.given.now in
    let p = c.args.entry.now in
    let part = c.in_ok-part.part.now in
    let secs = c.use_secs-secs.result in
    let is_active : active (with_activation c.args.c.now.version secs part.activations) g.moment.secs
    ≡ Some c.in-Some.field-0 = search rules in
    let made_is : c.in_ok-made-in-Some.made ≡ kept_used (with_activation c.args.c.now.version secs part.activations) p =
    search rules in
    used_comes g c.args.c.now (version_unknown g c.args.c.now.version) (master_denied g) refl refl c.requires.front p
    part c.requires.entry c.in_ok-part.ensures secs c.use_secs-secs.ensures.value
    c.in-Some.field-0 is_active c.in_ok-masters-in-Some.masters c.in_ok-masters-in-Some.ensures
    c.in_ok-made-in-Some.made made_is
    (made_fits g c.args.c.now p part secs c.in_ok-made-in-Some.made c.requires.entry c.in_ok-part.ensures
    c.requires.command c.use_secs-secs.ensures.short made_is) c.put.result c.put.ensures
