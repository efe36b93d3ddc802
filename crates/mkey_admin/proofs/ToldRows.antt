-- What rows tell of versions is what the state tells that they show.
use Rattle.std.proofs.Common.{◌≡◌, ℕ, zero, suc, ◌+◌, ◌<◌, ◌≤◌, Bool, List, [], ◌∷◌, ◌++◌, length, get_or}
use Rattle.std.proofs.Common.{map, take, Option, Some, None, refl, sym, ap, subst, ◌∙◌, arith, inl, inr}
use Rattle.std.specs.Prelude.{Ok, Err, filter, is_none, is_some, not}
use Rattle.std.proofs.lemmas.List.{map-append, take_all, take_more}
use Rattle.command_plans.specs.Causes.{denial_of}
use Rattle.command_plans.specs.Given.{IsGiven}
use Rattle.command_plans.specs.declared.given.Given.{Given}
use Rattle.command_plans.proofs.Lists.{both}
use Rattle.command_plans.proofs.Seen.{ComesTo, access_of, comes, told_at}
use Rattle.kadm_commands.specs.declared.commands.Command.{Command}
use Rattle.kadm_commands.specs.declared.commands.Command.TheVariants as command
use Rattle.kadm_commands.specs.declared.replies.Reply.TheVariants as reply
use Rattle.kadm_commands.specs.declared.versions.MasterRow.{MasterRow}
use Rattle.kadm_commands.specs.declared.versions.PurgeRow.{PurgeRow}
use Rattle.kdb_base.specs.Moment.{Moment}
use Rattle.kdb_base.specs.Versions.{AreRising}
use Rattle.kdb_base.specs.declared.outcomes.Refusal.{Refusal}
use Rattle.kdb_base.specs.declared.versions.Activation.{Activation}
use Rattle.kdb_base.specs.declared.versions.Master.{Master}
use Rattle.kdb_model.specs.Access.{asking, master_parts, setting}
use Rattle.kdb_model.specs.Calls.{Call, secs_of}
use Rattle.kdb_model.specs.Entries.{entry_of}
use Rattle.kdb_model.specs.Masters.{master_rows, purge_row, purge_rows}
use Rattle.kdb_model.specs.Refusals.{first, target}
use Rattle.kdb_model.specs.Steps.{reading_of}
use Rattle.kdb_plain.specs.declared.states.State.{State}
use Rattle.mkey_admin.specs.Plans.{IsEntry, IsMasterJudged, grounds_of, master_denied}
use Rattle.mkey_admin.specs.Told.{Grounds, counts_of, dead_told, is_dead, master_told}
use Rattle.mkey_admin.specs.Told.{masters_told, version_told, versions_told}
use Rattle.mkey_admin.specs.declared.planned.MasterPlan.TheVariants.{Answer}
use Rattle.mkey_admin.proofs.MasterPuts.{answered, refused}
use Rattle.mkey_admin.proofs.MasterTests.{list_tests}
use Rattle.mkey_admin.proofs.OwnRecord.{own_activations}
use Rattle.princ_record.specs.declared.facts.ChainPart.{ChainPart}
use Rattle.princ_record.specs.declared.princs.Princ.{Princ}
use Rattle.row_keys.proofs.Names.{protected_alike}
use Rattle.row_keys.proofs.Sides.{kept, left_out, truth}
use Rattle.row_keys.specs.Lookups.{records_under}
use Rattle.serving_versions.specs.Versions.{cause_from, cause_of, dead_versions, protected_by, serves}
use Rattle.serving_versions.specs.declared.serving.Cause.{Cause}

-- ---- rows by versions rise as the master keys do

module _ {R : Type 0} (row : Master → R) (version : R → ℕ) (same : (m : Master) → version (row m) ≡ m.version) where
  versions_of : (masters : List Master) → map version (map row masters) ≡ map (λ (m : Master). m.version) masters
  versions_of [] = refl
  versions_of (m ∷ masters) = ap (λ (v : ℕ). v ∷ map version (map row masters)) (same m)
      ∙ ap (λ (vs : List ℕ). m.version ∷ vs) (versions_of masters)

  pub rows_rise : (masters : List Master) (rows : List R) (i : ℕ) → rows ≡ map row (take i masters) → length masters ≤ i
      → AreRising (map (λ (m : Master). m.version) masters) → AreRising (map version rows)
  rows_rise masters rows i is le h =
      subst AreRising (sym (ap (map version) (is ∙ ap (map row) (take_all i masters le)) ∙ versions_of masters)) h

pub same_map : {A B : Type 0} (f g : A → B) → ((x : A) → f x ≡ g x) → (xs : List A) → map f xs ≡ map g xs
same_map f g same [] = refl
same_map f g same (x ∷ xs) = ap (λ y. y ∷ map f xs) (same x) ∙ ap (λ ys. g x ∷ ys) (same_map f g same xs)

-- ---- the moment

-- the seconds of the call's moment
pub secs_are : (g : Given) (cmd : Command) (s : State) (call : Call) (given : IsGiven g cmd s call)
    → secs_of s (told_at g cmd given.called.clock) ≡ g.moment.secs
secs_are g cmd s call given = ap (λ (m : Moment). m.secs) given.called.moment_is

-- ---- who may do it

pub denied_alike : (g : Given) (cmd : Command) (s : State) (call : Call) (given : IsGiven g cmd s call)
    (denied : Option Refusal)
    → denied ≡ master_denied g
    → denial_of (access_of g) g.client.now (asking setting (master_parts s.realm) ∷ []) ≡ denied
denied_alike g cmd s call given denied is =
    ap (λ r. denial_of (access_of g) g.client.now (asking setting (master_parts r) ∷ [])) given.seen.realm_is ∙ sym is

-- ---- list_mkeys

module _ (g : Given) (denied : Option Refusal) (denied_is : denied ≡ master_denied g) where
  list_comes : ComesTo g command.ListMasters (denied ∷ [])
  list_comes = comes g command.ListMasters (denied ∷ []) (λ s call given.
      list_tests s g.client.now given.called.clock g.random.now (access_of g)
      ∙ both _ _ _ _ (denied_alike g command.ListMasters s call given denied denied_is) refl)

  pub list_refused : (why : Refusal) → denied ≡ Some why → IsMasterJudged g command.ListMasters (Err why)
  unfolding first
  list_refused why is = refused g command.ListMasters (denied ∷ []) list_comes why (rw is refl)

  pub lists : (p : Princ) (part : ChainPart) (rows : List MasterRow) → denied ≡ None → IsEntry g p → p.chain ≡ Some part
      → rows ≡ masters_told g.masters.now part.activations g.moment.secs
      → IsMasterJudged g command.ListMasters (Ok (Answer (reply.MastersListed rows)))
  unfolding first entry_of reading_of target master_rows masters_told
  lists p part rows none entry part_is rows_are =
      answered g command.ListMasters (denied ∷ []) list_comes (reply.MastersListed rows) (rw none refl)
      (λ s call given.
      let secs = secs_are g command.ListMasters s call given in
      let activations = own_activations g command.ListMasters p entry s call given part part_is in (
        refl,
        ap reply.MastersListed (
            rows_are
            ∙ ap (λ (ms : List Master). map (master_told part.activations g.moment.secs) ms)
            (sym given.seen.masters_are)
            ∙ ap (λ (acts : List Activation). map (master_told acts g.moment.secs) s.masters) activations
            ∙ ap (λ n. map (master_told s.activations n) s.masters) (sym secs)),
      ))

-- ---- purge_mkeys: the rows

module _ (g : Given) (p : Princ) (part : ChainPart) (entry : IsEntry g p) (part_is : p.chain ≡ Some part) (s : State)
    (call : Call) (given : IsGiven g command.PurgeMasters s call) where
  count_alike : (version : ℕ)
      → records_under g.realm.now g.rows.now.princs version ≡ protected_by s.realm s.princs version
  count_alike version =
      ap (λ r. records_under r g.rows.now.princs version) (sym given.seen.realm_is)
      ∙ protected_alike s.masters given.seen.shows.history g.rows.now.princs s.princs given.seen.shows.princs
      s.realm version

  row_alike : (m : Master) → version_told (grounds_of g part.activations) m ≡ purge_row s g.moment.secs m
  unfolding cause_of
  row_alike m =
      let made : Option Cause → PurgeRow = λ cause. record { version = m.version; cause = cause } in
      ap made (
      ap (λ n. cause_from n g.masters.now part.activations g.moment.secs m.version) (count_alike m.version)
      ∙ ap (λ (ms : List Master). cause_from (protected_by s.realm s.princs m.version) ms part.activations g.moment.secs
      m.version) (sym given.seen.masters_are)
      ∙ ap (λ (acts : List Activation). cause_from (protected_by s.realm s.princs m.version) s.masters acts
      g.moment.secs m.version) (own_activations g command.PurgeMasters p entry s call given part part_is))

  pub rows_alike : versions_told (grounds_of g part.activations) ≡ purge_rows s g.moment.secs
  unfolding versions_told purge_rows
  rows_alike =
      same_map (version_told (grounds_of g part.activations)) (purge_row s g.moment.secs) row_alike g.masters.now
      ∙ ap (map (purge_row s g.moment.secs)) (sym given.seen.masters_are)

-- ---- the versions that do not serve

dead_or_not : (o : Option Cause) → is_none o ≡ not (is_some o)
dead_or_not None = refl
dead_or_not (Some x) = refl

module _ (s : State) (secs : ℕ) where
  abbrev tests : ℕ → Bool
  tests version = not (serves s secs version)

  dead_step : (masters : List Master) → map (λ (row : PurgeRow). row.version)
      (filter is_dead (map (purge_row s secs) masters)) ≡ filter tests (map (λ (m : Master). m.version) masters)
  dead_step [] = refl
  dead_step (m ∷ masters) =
      let same : is_dead (purge_row s secs m) ≡ tests m.version = dead_or_not (cause_of s secs m.version) in
      elim (truth (tests m.version)) [
        | inl e ↦
            ap (map (λ (row : PurgeRow). row.version))
            (kept is_dead (purge_row s secs m) (map (purge_row s secs) masters) (same ∙ e))
            ∙ ap (λ (vs : List ℕ). m.version ∷ vs) (dead_step masters)
            ∙ sym (kept tests m.version (map (λ (m : Master). m.version) masters) e)
        | inr e ↦
            ap (map (λ (row : PurgeRow). row.version))
            (left_out is_dead (purge_row s secs m) (map (purge_row s secs) masters) (same ∙ e))
            ∙ dead_step masters
            ∙ sym (left_out tests m.version (map (λ (m : Master). m.version) masters) e)
      ]

  pub dead_alike : dead_told (purge_rows s secs) ≡ dead_versions s secs
  unfolding dead_told purge_rows dead_versions
  dead_alike = dead_step s.masters

-- ---- as the code goes

at_map : (f : Master → ℕ) (masters : List Master) (i : ℕ) (m : Master) → i < length masters → m ≡ get_or masters i m
    → get_or (map f masters) i 0 ≡ f m
at_map f [] i m lt is = absurd (omega arith)
at_map f (x ∷ masters) zero m lt is = ap f (sym is)
at_map f (x ∷ masters) (suc i) m lt is = at_map f masters i m (omega arith) is

pub told_more : (v : Grounds) (masters : List Master) (counts : List ℕ) (rows new : List PurgeRow) (i : ℕ) (m : Master)
    (row : PurgeRow) → i < length masters → m ≡ get_or masters i m → masters ≡ v.masters
    → counts ≡ counts_of v.realm v.princs v.masters → row ≡ record {
      version = m.version;
      cause = cause_from (get_or counts i 0) v.masters v.activations v.secs m.version;
    }
    → rows ≡ map (version_told v) (take i masters) → new ≡ rows ++ row ∷ []
    → new ≡ map (version_told v) (take (i + 1) masters)
unfolding counts_of
told_more v masters counts rows new i m row lt is masters_are counts_are row_is rows_are new_is =
    let count : get_or counts i 0 ≡ records_under v.realm v.princs m.version =
    ap (λ (ns : List ℕ). get_or ns i 0)
    (counts_are ∙ ap (map (λ (x : Master). records_under v.realm v.princs x.version)) (sym masters_are))
    ∙ at_map (λ (x : Master). records_under v.realm v.princs x.version) masters i m lt is in
    let told : row ≡ version_told v m = row_is
    ∙ ap (λ n. record { version = m.version; cause = cause_from n v.masters v.activations v.secs m.version }) count in
    let front : take (i + 1) masters ≡ take i masters ++ m ∷ [] =
    take_more masters i m lt ∙ ap (λ (x : Master). take i masters ++ x ∷ []) (sym is) in
    new_is ∙ ap (λ (rs : List PurgeRow). rs ++ row ∷ []) rows_are
    ∙ ap (λ (r : PurgeRow). map (version_told v) (take i masters) ++ r ∷ []) told
    ∙ sym (map-append (version_told v) (take i masters) (m ∷ [])) ∙ ap (map (version_told v)) (sym front)
