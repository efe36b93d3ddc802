-- What a crash leaves of a run, by its opening.
use Rattle.std.proofs.Common.{◌≡◌, ℕ, Bool, List, inl, inr, Option, Some, None, Err, refl, sym, ◌∙◌, ap, subst}
use Rattle.std.proofs.lemmas.Option.{same_Some}
use Rattle.first_rows.specs.Parts.{IsSpec, SpecParts}
use Rattle.kadm_keytabs.specs.declared.answers.Answer.{Answer}
use Rattle.kadm_loading.specs.Loads.{LoadEnd}
use Rattle.kadm_session.specs.declared.intake.Asked.{Asked}
use Rattle.kadm_top.specs.Openings.{Adds, AddsNew, AMoment, Ends, Filters, IsLoading, Loads}
use Rattle.kadm_top.specs.Openings.{Makes, Opening, Opens, Refuses, Renewing, Tells, behind}
use Rattle.kadm_top.specs.Run.{IfTold, OpensPart, RunLeaves, Told, place_made}
use Rattle.kadm_top.specs.Words.{words_in}
use Rattle.kdb_base.specs.declared.outcomes.Refusal.TheVariants.{NotADatabase}
use Rattle.kdb_disk.specs.Files.{Files}
use Rattle.kdb_disk.specs.View.{View}
use Rattle.kdb_histories.proofs.Growing.{StaysValid}
use Rattle.kdb_histories.specs.Seen.{Seen}
use Rattle.kdb_histories.specs.Sites.{Site}
use Rattle.kdb_places.specs.Places.{Place}
use Rattle.princ_name.specs.Readings.{own_name_in}
use Rattle.run_events.proofs.Begun.{Facts, OpenedBy, RenewedBy, begun}
use Rattle.run_events.proofs.Changing.{DumpsHaveRows, ShowSome, keys_come, lines_come, load_comes}
use Rattle.run_events.proofs.Coming.{comes_behind, history_on, like_comes}
use Rattle.run_events.proofs.Ending.{end_comes, made_comes}
use Rattle.run_events.proofs.Opened.{IsReady, ShowOne, is_ready, opening_comes}
use Rattle.run_events.proofs.Within.{are_within}
use Rattle.run_events.specs.Beginning.{AreDrawn, Begins, HasMasters}
use Rattle.run_events.specs.Coming.{HasCome}
use Rattle.session_base.specs.Draws.{Draws, behind_moment, moment_in}
use Rattle.store_files.specs.Found.{found_in}
use Rattle.store_files.specs.Recovery.{Creates}

-- the laws that are called
pub record Laws : Type 0 where
  pub valid : StaysValid
  pub one : ShowOne
  pub some : ShowSome
  pub dumps : DumpsHaveRows

module _ (laws : Laws) (s : Site) (said : List (List ℕ)) (old : View) (before : Told) where
  same_draws : (o : Opening) (b : Begins s said old before o) (told : Draws) → before.draws ≡ Some told → told ≡ b.draws
  same_draws o b told is = same_Some told b.draws (sym is ∙ b.draws_are)

  drawn_so : (o : Opening) (b : Begins s said old before o) (told : Draws) → before.draws ≡ Some told → AreDrawn told
  drawn_so o b told is = subst AreDrawn (sym (same_draws o b told is)) b.drawn

  facts : (o : Opening) → Begins s said old before o → Facts before.left old.seen before.draws o
  facts o b = begun before.left old.seen before.draws (words_in said) o (are_within said) b.is

  -- from where the files have come to that are read
  from_there : (o : Opening) (b : Begins s said old before o) (c : Files) → HasCome b.reads.new c → HasCome s c
  from_there o b c h = comes_behind s b.reads.new c b.reads.runs h

  -- ---- by what opens

  opened_comes : (begin : Place) (made : List Place) (at : Seen) (o : Opening) (b : Begins s said old before o)
      → OpenedBy old.seen before.draws begin made at
      → (c : Files) → OpensPart old begin made c → HasCome s c
  opened_comes begin made at o b f c (inl like) = like_comes s old c b.rests like
  opened_comes begin made at o b f c (inr part) =
      from_there o b c
      (opening_comes b.reads.new old.seen f.size before.draws begin made at f.opens f.some b.reads.closed b.reads.stands
      ((drawn_so o b f.opens.told f.opens.draws_are).moments 0) c part)

  ready : (begin : Place) (made : List Place) (at : Seen) (o : Opening) (b : Begins s said old before o)
      → OpenedBy old.seen before.draws begin made at
      → HasMasters b.reads.new at → IsReady b.reads.new at
  ready begin made at o b f masters =
      is_ready b.reads.new old.seen f.size before.draws begin made at f.opens f.some b.reads.closed b.reads.stands
      ((drawn_so o b f.opens.told f.opens.draws_are).moments 0)
      laws.valid laws.one (history_on s b.reads.new b.rests.history b.reads.runs) masters

  -- ---- one kind after another

  pub asked_comes : (begin : Place) (made : List Place) (at : Seen) (its : Option Asked) (c : Files)
      → Begins s said old before (Opens begin made at its)
      → RunLeaves (Opens begin made at its) old before c → HasCome s c
  asked_comes begin made at its c b (inl part) =
      opened_comes begin made at (Opens begin made at its) b (facts (Opens begin made at its) b) c part
  asked_comes begin made at its c b (inr leaves) =
      let o = Opens begin made at its in
      let f : OpenedBy old.seen before.draws begin made at = facts o b in
      from_there o b c
      (lines_come laws.valid b.reads.new at its before b.text b.draws c
      (ready begin made at o b f b.may) f.opens.shows b.left_is b.draws_are leaves)

  pub loaded_comes : (begin : Place) (made : List Place) (at : Seen) (what : Option LoadEnd) (c : Files)
      → Begins s said old before (Loads begin made at what)
      → RunLeaves (Loads begin made at what) old before c → HasCome s c
  loaded_comes begin made at what c b (inl part) =
      let o = Loads begin made at what in
      let f : IsLoading before.left (found_in old.seen) before.draws begin made at what = facts o b in
      opened_comes begin made at o b (record { size = None; some = tt; opens = f.opens }) c part
  loaded_comes begin made at what c b (inr leaves) =
      let o = Loads begin made at what in
      let f : IsLoading before.left (found_in old.seen) before.draws begin made at what = facts o b in
      let told = f.opens.told in
      from_there o b c
      (load_comes laws.some laws.dumps b.reads.new at
      (ready begin made at o b (record { size = None; some = tt; opens = f.opens }) b.may) f.opens.shows
      (moment_in (behind_moment told)) ((drawn_so o b told f.opens.draws_are).moments 1)
      before.left b.text f.opens.files.control.stash what (behind AMoment before.draws) (behind_moment told) c b.left_is
      (ap (behind AMoment) f.opens.draws_are) refl f.comes leaves)

  pub added_comes : (begin : Place) (made : List Place) (at : Seen) (reads : Bool) (what : Option Answer) (c : Files)
      → Begins s said old before (Adds begin made at reads what)
      → RunLeaves (Adds begin made at reads what) old before c → HasCome s c
  added_comes begin made at reads what c b part =
      opened_comes begin made at (Adds begin made at reads what) b (facts (Adds begin made at reads what) b) c part

  pub renewed_comes : (begin : Place) (made : List Place) (at : Seen) (reads : Bool) (what : Renewing) (c : Files)
      → Begins s said old before (AddsNew begin made at reads what)
      → RunLeaves (AddsNew begin made at reads what) old before c → HasCome s c
  renewed_comes begin made at reads what c b (inl part) =
      let o = AddsNew begin made at reads what in
      let f : RenewedBy before.left old.seen before.draws begin made at reads what = facts o b in
      opened_comes begin made at o b (record { size = None; some = tt; opens = f.is.opens }) c part
  renewed_comes begin made at reads what c b (inr leaves) =
      let o = AddsNew begin made at reads what in
      let f : RenewedBy before.left old.seen before.draws begin made at reads what = facts o b in
      let opens = f.is.opens in
      from_there o b c
      (keys_come b.reads.new at (ready begin made at o b (record { size = None; some = tt; opens = opens }) b.may)
      (behind_moment opens.told)
      ((drawn_so o b opens.told opens.draws_are).moments 1)
      (own_name_in f.word at.place.realm) f.etypes before.left b.text reads what c b.left_is f.is.comes leaves)

  pub created_comes : (spec : SpecParts) (c : Files) → Begins s said old before (Makes spec)
      → RunLeaves (Makes spec) old before c → HasCome s c
  created_comes spec c b leaves =
      let f : IsSpec spec × (found_in old.seen ≡ Err NotADatabase) = facts (Makes spec) b in
      made_comes s spec b.draws old c b.rests b.reads f.0 b.drawn b.may f.1
      (subst (λ (x : Option Draws). IfTold x (λ draws. Creates old (place_made spec draws) c)) b.draws_are leaves)

  pub any_comes : (o : Opening) (c : Files) → Begins s said old before o → RunLeaves o old before c → HasCome s c
  any_comes (Refuses why drawn) c b leaves = like_comes s old c b.rests leaves
  any_comes (Opens begin made at its) c b leaves = asked_comes begin made at its c b leaves
  any_comes (Loads begin made at what) c b leaves = loaded_comes begin made at what c b leaves
  any_comes (Adds begin made at reads what) c b leaves = added_comes begin made at reads what c b leaves
  any_comes (AddsNew begin made at reads what) c b leaves = renewed_comes begin made at reads what c b leaves
  any_comes (Filters what) c b leaves = like_comes s old c b.rests leaves
  any_comes (Tells text drawn) c b leaves = like_comes s old c b.rests leaves
  any_comes (Makes spec) c b leaves = created_comes spec c b leaves
  any_comes Ends c b leaves = end_comes s old c b.rests b.reads leaves
