-- A change that is not refused keeps a valid state valid.
use Rattle.std.proofs.Common.{◌≡◌, ◌≢◌, ℕ, ◌+◌, ◌<◌, ◌≤◌, ◌^◌, Bool, true, false, ◌&&◌, ◌||◌, List, [], ◌∷◌}
use Rattle.std.proofs.Common.{◌++◌, length, Option, Some, None, refl, sym, ap, subst, ◌∙◌, ◌⊎◌, inl, inr, arith}
use Rattle.std.specs.Prelude.{find, is_none, is_some, nat_le, nat_lt, not}
use Rattle.std.specs.Prelude.{option_and_then, option_map, unwrap_or, IfSome, IsTrue}
use Rattle.std.specs.List.{last_or, list_any}
use Rattle.std.proofs.lemmas.Bool.{leb-false, ltb-false}
use Rattle.acl_text.specs.declared.limits.Limits.{Limits}
use Rattle.kadm_commands.specs.Commands.{IsCommand, IsModPolicy, IsBelow32, Within}
use Rattle.kadm_commands.specs.declared.commands.AddPrinc.{AddPrinc}
use Rattle.kadm_commands.specs.declared.commands.ChangeKeys.{ChangeKeys}
use Rattle.kadm_commands.specs.declared.commands.Command.{Command}
use Rattle.kadm_commands.specs.declared.commands.Command.TheVariants as command
use Rattle.kadm_commands.specs.declared.commands.ModPrinc.{ModPrinc}
use Rattle.kadm_commands.specs.declared.commands.PurgeKeys.{PurgeKeys}
use Rattle.kadm_commands.specs.declared.commands.RenPrinc.{RenPrinc}
use Rattle.kadm_commands.specs.declared.commands.UseMaster.{UseMaster}
use Rattle.kadm_commands.specs.declared.policies.ModPolicy.{ModPolicy}
use Rattle.kdb_base.specs.Limits.{most_rows}
use Rattle.kdb_base.specs.Moment.{Moment}
use Rattle.kdb_base.specs.declared.keys.Etype.{Etype}
use Rattle.kdb_base.specs.declared.versions.Master.{Master}
use Rattle.kdb_model.specs.Access.{adding, limits_for, modifying}
use Rattle.kdb_model.specs.Calls.{Call, moment_of, secs_of}
use Rattle.kdb_model.specs.Entries.{entry_of, on_named, unless_none_dead}
use Rattle.kdb_model.specs.Fields.{added_head, blank_head, keyed_by, limited, marked}
use Rattle.kdb_model.specs.Fields.{modified_head, rekeyed_head, with_options}
use Rattle.kdb_model.specs.Masters.{new_etype, new_master, on_master, use_secs, used_activations}
use Rattle.kdb_model.specs.Records.{active_in, added, added_keys, added_life, changed_policy}
use Rattle.kdb_model.specs.Records.{modified, numbers_for, purged, rekeyed, renamed, restrung}
use Rattle.kdb_model.specs.Refusals.{is_missing, is_protected, names_missing}
use Rattle.kdb_plain.specs.Changes.{IsOrdinary, drop_princ, effect_on, name_of, policy_name}
use Rattle.plain_keys.specs.Keys.{items_of, kept_keys, least_kvno, made_keys, newest_kvno}
use Rattle.serving_versions.specs.MasterChanges.{adds_master, purges_masters, uses_version}
use Rattle.kdb_plain.specs.States.{HasItsPolicy, IsListed, IsValid, NeverRise, has_policy, is_named}
use Rattle.kdb_plain.specs.States.{is_policy_named, master_of, never_rise, policy_named, princ_named, users_of}
use Rattle.serving_versions.specs.Versions.{dead_versions}
use Rattle.kdb_plain.specs.declared.changes.PlainOp.{PlainOp}
use Rattle.kdb_plain.specs.declared.changes.PlainOp.TheVariants.{PutPrinc, DropPrinc, Rename}
use Rattle.kdb_plain.specs.declared.changes.PlainOp.TheVariants.{PutPolicy, DropPolicy, PutMasters}
use Rattle.plain_keys.specs.declared.items.PlainItem.{PlainItem}
use Rattle.plain_keys.specs.declared.new_keys.NewKeys.{NewKeys}
use Rattle.kdb_plain.specs.declared.princs.PlainPrinc.{PlainPrinc}
use Rattle.kdb_plain.specs.declared.states.State.{State}
use Rattle.serving_versions.proofs.LatestKept.{active_listed}
use Rattle.serving_versions.proofs.MasterSets.{add_valid, is_there, purge_valid, use_valid}
use Rattle.serving_versions.proofs.Places.{drop_one, named_holds, named_so, put_same}
use Rattle.kdb_plain.proofs.Valid.{drop_policy_valid, drop_valid, put_policy_valid, put_valid}
use Rattle.key_activation.specs.Activations.{active}
use Rattle.master_keys.specs.Adding.{next_version}
use Rattle.master_keys.specs.First.{master_name}
use Rattle.master_keys.specs.Versions.{last_version}
use Rattle.policy_rules.specs.Ranges.{is_history, is_min_classes, is_min_length}
use Rattle.policy_rules.specs.Rules.{Rules}
use Rattle.princ_name.specs.Names.{NameParts, printed}
use Rattle.princ_record.specs.Policies.{IsPolicy}
use Rattle.princ_record.specs.declared.princs.Princ.{Princ}
use Rattle.princ_rows.proofs.Orders.{put_short}
use Rattle.tagged_data.specs.declared.string_attributes.StringAttribute.{StringAttribute}
use Rattle.kdb_model.proofs.Accepted.{IsAccepted, chained, mapped, not_own, one_name, or_false, two_names, when_none}
use Rattle.kdb_model.proofs.Falling.{from_falls, front_falls, kept_falls, kept_low, new_falls, settled_falls}

not_false : (b : Bool) → not b ≡ false → b ≡ true
not_false true e = refl
not_false false e = absurd cc

some_if_not : {A : Type 0} (o : Option A) → is_none o ≡ false → is_some o ≡ true
some_if_not None e = absurd cc
some_if_not (Some a) e = refl

-- what restrictions leave of a head
pub limited_name : (limits : Option Limits) (secs : ℕ) (h : Princ) → (limited limits secs h).name ≡ h.name
limited_name None secs h = refl
limited_name (Some l) secs h = refl

limited_mkvno : (limits : Option Limits) (secs : ℕ) (h : Princ) → (limited limits secs h).mkvno ≡ h.mkvno
limited_mkvno None secs h = refl
limited_mkvno (Some l) secs h = refl

keyed_name : (life : Option ℕ) (secs : ℕ) (h : Princ) → (keyed_by life secs h).name ≡ h.name
keyed_name None secs h = refl
keyed_name (Some l) secs h = refl

keyed_mkvno : (life : Option ℕ) (secs : ℕ) (h : Princ) → (keyed_by life secs h).mkvno ≡ h.mkvno
keyed_mkvno None secs h = refl
keyed_mkvno (Some l) secs h = refl

unwrap_holds : {A : Type 0} (P : A → Type 0) (o : Option A) (d : A) → IfSome o P → P d → P (unwrap_or o d)
unwrap_holds P None d h own = own
unwrap_holds P (Some a) d h own = h

is_unwrapped : (o : Option ℕ) → is_some o ≡ true → o ≡ Some (unwrap_or o 0)
is_unwrapped None e = absurd cc
is_unwrapped (Some a) e = refl

none_left : (n : ℕ) → nat_lt 0 n ≡ false → n ≡ 0
none_left n e = omega (arith, ltb-false 0 n e)

pub dead_change : (dead : List ℕ) (change : Option PlainOp) (op : PlainOp) → unless_none_dead dead change ≡ Some op
    → change ≡ Some op
dead_change [] change op e = absurd cc
dead_change (v ∷ dead) change op e = e

policy_there : (name : List ℕ) (policies : List Rules) (p : Rules) → policy_named name policies ≡ Some p
    → find (is_policy_named name) policies ≡ Some p
unfolding policy_named
policy_there name policies p e = e

-- ---- the fields that matter here

pub modified_name : (s : State) (call : Call) (c : ModPrinc) (q : PlainPrinc) → (modified s call c q).name ≡ q.name
unfolding modified modified_head with_options
modified_name s call c q = limited_name (limits_for call modifying c.name) (secs_of s call) _

modified_mkvno : (s : State) (call : Call) (c : ModPrinc) (q : PlainPrinc) → (modified s call c q).mkvno ≡ q.mkvno
unfolding modified modified_head with_options
modified_mkvno s call c q = limited_mkvno (limits_for call modifying c.name) (secs_of s call) _

pub added_name : (s : State) (call : Call) (c : AddPrinc) → (added s call c).name ≡ printed c.name
unfolding added added_head with_options blank_head
added_name s call c = limited_name (limits_for call adding c.name) (secs_of s call) _
    ∙ keyed_name (added_life s call c) (secs_of s call) _

added_mkvno : (s : State) (call : Call) (c : AddPrinc) → (added s call c).mkvno ≡ active_in s call
unfolding added added_head with_options blank_head
added_mkvno s call c = limited_mkvno (limits_for call adding c.name) (secs_of s call) _
    ∙ keyed_mkvno (added_life s call c) (secs_of s call) _

added_falls : (call : Call) (c : AddPrinc) (keys : Option NewKeys) → c.keys ≡ keys
    → never_rise (added_keys call c) ≡ true
unfolding never_rise
added_falls call c None e = rw e refl
added_falls call c (Some keys) e = rw e (new_falls 1 (made_keys call.random c.name keys))

own_added : (s : State) (call : Call) (c : AddPrinc) → never_rise (added_keys call c) ≡ true
    → never_rise (added s call c).keys ≡ true
unfolding added
own_added s call c e = e

own_modified : (s : State) (call : Call) (c : ModPrinc) (q : PlainPrinc) → never_rise q.keys ≡ true
    → never_rise (modified s call c q).keys ≡ true
unfolding modified
own_modified s call c q e = e

master_behind : (s : State) (call : Call) (etype : Etype)
    → last_version s.masters < (new_master etype call.random s.masters).version
unfolding new_master next_version
master_behind s call etype = omega arith

module _ (s : State) (call : Call) (f : IsValid (moment_of s call) s) where
  abbrev Next : PlainOp → Type 0
  Next op = IsValid (moment_of s call) (effect_on op s)

  found : (name : List ℕ) (q : PlainPrinc) → princ_named name s.princs ≡ Some q → find (is_named name) s.princs ≡ Some q
  found name q e = is_there name s.princs q e

  -- the policy that a change puts is there
  has_it : (o : Option (List ℕ)) → is_missing s o ≡ false → IfSome o (λ name. IsTrue (has_policy name s.policies))
  has_it None e = tt
  has_it (Some name) e = not_false (has_policy name s.policies) e

  active_there : IsListed s.masters (active_in s call)
  active_there = active_listed (moment_of s call) s (secs_of s call) (active_in s call) f
      (is_unwrapped (active s.activations (secs_of s call)) f.begun)

  -- one more principal
  put_new : (name : NameParts) (r : PlainPrinc) → r.name ≡ printed name → is_protected s.realm name ≡ false
      → never_rise r.keys ≡ true → IsListed s.masters r.mkvno → HasItsPolicy s.policies r
      → nat_le most_rows (length s.princs + length s.policies) ≡ false → Next (PutPrinc r)
  unfolding effect_on
  put_new name r named other falls listed policy room =
      let own = not_own s.realm name other in
      put_valid (moment_of s call) s r f
      (record {
        other_than_master = λ e. own.other_than_master (sym named ∙ e);
        one_history_key = λ e. absurd (own.other_than_history (sym named ∙ e));
        falling = falls;
      })
      listed policy
      (omega (arith, put_short name_of r s.princs, leb-false most_rows (length s.princs + length s.policies) room))

  -- a principal in its place
  put_in_place : (name : NameParts) (q r : PlainPrinc) → princ_named (printed name) s.princs ≡ Some q
      → is_protected s.realm name ≡ false → r.name ≡ q.name → never_rise r.keys ≡ true
      → IsListed s.masters r.mkvno → HasItsPolicy s.policies r → Next (PutPrinc r)
  unfolding effect_on
  put_in_place name q r there other same falls listed policy =
      let own = not_own s.realm name other in
      let named : r.name ≡ printed name =
      same ∙ named_so name_of (printed name) s.princs q (found (printed name) q there) in
      let few = f.few in
      put_valid (moment_of s call) s r f
      (record {
        other_than_master = λ e. own.other_than_master (sym named ∙ e);
        one_history_key = λ e. absurd (own.other_than_history (sym named ∙ e));
        falling = falls;
      })
      listed policy
      (omega (
        arith,
        few,
        put_same name_of s.princs r q f.princ_order
            (subst (λ (n : List ℕ). find (is_named n) s.princs ≡ Some q) (sym named) (found (printed name) q there)),
      ))

  module _ (name : NameParts) (q : PlainPrinc) (there : princ_named (printed name) s.princs ≡ Some q) where
    own_falls : never_rise q.keys ≡ true
    own_falls = named_holds name_of (λ (o : PlainPrinc). NeverRise o.keys) (printed name) s.princs q
        (found (printed name) q there) f.falling

    own_listed : IsListed s.masters q.mkvno
    own_listed = named_holds name_of (λ (o : PlainPrinc). IsListed s.masters o.mkvno) (printed name) s.princs q
        (found (printed name) q there) f.listed

    own_policy : HasItsPolicy s.policies q
    own_policy = named_holds name_of (HasItsPolicy s.policies) (printed name) s.princs q
        (found (printed name) q there) f.policies_there

  -- ---- principals

  add_valid_princ : (c : AddPrinc) → IsAccepted s call (command.AddPrinc c) (Some (PutPrinc (added s call c)))
      → Next (PutPrinc (added s call c))
  add_valid_princ c a =
      put_new c.name (added s call c) (added_name s call c) (one_name s.realm c.name a.unprotected) (own_added s call c
      (added_falls call c c.keys refl)) (subst (IsListed s.masters) (sym (added_mkvno s call c)) active_there)
      (has_it (added s call c).policy
      (or_false (names_missing s c.policy) (is_missing s (added s call c).policy) a.policy).1) a.room

  mod_valid : (c : ModPrinc) (q : PlainPrinc) → princ_named (printed c.name) s.princs ≡ Some q
      → IsAccepted s call (command.ModPrinc c) (Some (PutPrinc (modified s call c q)))
      → Next (PutPrinc (modified s call c q))
  mod_valid c q there a =
      put_in_place c.name q (modified s call c q) there (one_name s.realm c.name a.unprotected)
      (modified_name s call c q) (own_modified s call c q (own_falls c.name q there))
      (subst (IsListed s.masters) (sym (modified_mkvno s call c q)) (own_listed c.name q there))
      (has_it (modified s call c q).policy
      (or_false (names_missing s c.policy) (is_missing s (modified s call c q).policy) a.policy).1)

  key_valid : (c : ChangeKeys) (q : PlainPrinc) → princ_named (printed c.name) s.princs ≡ Some q
      → IsAccepted s call (command.ChangeKeys c) (Some (PutPrinc (rekeyed s call c q)))
      → Next (PutPrinc (rekeyed s call c q))
  unfolding rekeyed rekeyed_head
  key_valid c q there a =
      let old = own_falls c.name q there in
      put_in_place c.name q (rekeyed s call c q) there (one_name s.realm c.name a.unprotected) refl
      (front_falls (newest_kvno q.keys + 1) (made_keys call.random c.name c.keys) (kept_keys c.keep_old q.keys)
      (kept_low c.keep_old q.keys old) (kept_falls c.keep_old q.keys old))
      active_there (own_policy c.name q there)

  purge_keys_valid : (c : PurgeKeys) (q : PlainPrinc) → princ_named (printed c.name) s.princs ≡ Some q
      → IsAccepted s call (command.PurgeKeys c) (Some (PutPrinc (purged s call c q)))
      → Next (PutPrinc (purged s call c q))
  unfolding purged
  purge_keys_valid c q there a =
      put_in_place c.name q (purged s call c q) there (one_name s.realm c.name a.unprotected) refl
      (from_falls (least_kvno c.keep q.keys) q.keys (own_falls c.name q there)) (own_listed c.name q there)
      (own_policy c.name q there)

  string_valid : (name : NameParts) (strings : List StringAttribute) (q : PlainPrinc)
      → princ_named (printed name) s.princs ≡ Some q → is_protected s.realm name ≡ false
      → Next (PutPrinc (restrung s call strings q))
  unfolding restrung
  string_valid name strings q there other = put_in_place name q (restrung s call strings q) there other refl
      (own_falls name q there) (own_listed name q there) (own_policy name q there)

  drop_valid_princ : (name : NameParts) → is_protected s.realm name ≡ false → Next (DropPrinc (printed name))
  unfolding effect_on
  drop_valid_princ name other = drop_valid (moment_of s call) s (printed name) f (not_own s.realm name other)

  ren_valid : (c : RenPrinc) (q : PlainPrinc) → princ_named (printed c.name) s.princs ≡ Some q
      → IsAccepted s call (command.RenPrinc c) (Some (Rename (printed c.name) (renamed s call c q)))
      → Next (Rename (printed c.name) (renamed s call c q))
  unfolding effect_on renamed
  ren_valid c q there a =
      let others = two_names s.realm c.name c.new_name a.unprotected in
      let own = not_own s.realm c.new_name others.1 in
      let few = f.few in
      put_valid (moment_of s call) (drop_princ (printed c.name) s) (renamed s call c q)
      (drop_valid (moment_of s call) s (printed c.name) f (not_own s.realm c.name others.0))
      (record {
        other_than_master = own.other_than_master;
        one_history_key = λ e. absurd (own.other_than_history e);
        falling = settled_falls c.name q.keys (own_falls c.name q there);
      })
      (own_listed c.name q there) (own_policy c.name q there)
      (omega (
        arith,
        few,
        drop_one name_of s.princs (printed c.name) q f.princ_order (found (printed c.name) q there),
        put_short name_of (renamed s call c q) (drop_princ (printed c.name) s).princs,
      ))

  -- ---- policies

  add_policy_valid : (p : Rules) → IsPolicy p → nat_le most_rows (length s.princs + length s.policies) ≡ false
      → Next (PutPolicy p)
  unfolding effect_on
  add_policy_valid p is room = put_policy_valid (moment_of s call) s p f is (omega (
    arith,
    put_short policy_name p s.policies,
    leb-false most_rows (length s.princs + length s.policies) room,
  ))

  mod_policy_valid : (c : ModPolicy) (p : Rules) → policy_named c.name s.policies ≡ Some p → IsModPolicy c
      → Next (PutPolicy (changed_policy c p))
  unfolding effect_on changed_policy
  mod_policy_valid c p there is =
      let at = policy_there c.name s.policies p there in
      let own = named_holds policy_name IsPolicy c.name s.policies p at f.policies in
      let few = f.few in
      put_policy_valid (moment_of s call) s (changed_policy c p) f
      (record {
        named = own.named;
        max_life = unwrap_holds (λ n. n < 2 ^ 32) c.max_life p.max_life is.max_life own.max_life;
        min_life = unwrap_holds (λ n. n < 2 ^ 32) c.min_life p.min_life is.min_life own.min_life;
        length = unwrap_holds (λ n. IsTrue (is_min_length n)) c.min_length p.min_length is.min_length own.length;
        classes = unwrap_holds (λ n. IsTrue (is_min_classes n)) c.min_classes p.min_classes is.min_classes own.classes;
        remembered = unwrap_holds (λ n. IsTrue (is_history n)) c.history p.history is.history own.remembered;
      })
      (omega (
        arith,
        few,
        put_same policy_name s.policies (changed_policy c p) p f.policy_order
            (subst (λ (n : List ℕ). find (is_policy_named n) s.policies ≡ Some p)
            (sym (named_so policy_name c.name s.policies p at)) at),
      ))

  del_policy_valid : (name : List ℕ) → nat_lt 0 (users_of name s.princs) ≡ false → Next (DropPolicy name)
  unfolding effect_on
  del_policy_valid name unused =
      drop_policy_valid (moment_of s call) s name f (none_left (users_of name s.princs) unused)

  -- ---- master keys

  add_master_valid : (etype : Etype) (q : PlainPrinc) → princ_named (master_name s.realm) s.princs ≡ Some q
      → Next (adds_master s (new_master etype call.random s.masters) q)
  add_master_valid etype q there =
      add_valid (moment_of s call) s q f there (new_master etype call.random s.masters) (master_behind s call etype)

  use_master_valid : (c : UseMaster) (q : PlainPrinc) → princ_named (master_name s.realm) s.princs ≡ Some q
      → is_none (master_of s.masters c.version) ≡ false
      → is_none (active (used_activations s call c) (secs_of s call)) ≡ false
      → Next (uses_version s c.version (use_secs s call c) q)
  use_master_valid c q there known begun =
      use_valid (moment_of s call) s q f there c.version
      (use_secs s call c) (some_if_not (master_of s.masters c.version) known)
      (some_if_not (active (used_activations s call c) (secs_of s call)) begun)

  -- ---- by command

  at : (cmd : Command) (op given : PlainOp) → given ≡ op → IsAccepted s call cmd (Some op)
      → (IsAccepted s call cmd (Some given) → Next given) → Next op
  at cmd op given same a next =
      subst Next same (next (subst (λ (o : PlainOp). IsAccepted s call cmd (Some o)) (sym same) a))

  of_some : (x y : PlainOp) → ◌≡◌ {A = Option PlainOp} (Some x) (Some y) → x ≡ y
  of_some x y e = cc

  pub change_valid : (cmd : Command) (op : PlainOp) → IsCommand s.realm cmd → IsAccepted s call cmd (Some op)
      → entry_of s call cmd ≡ Some op → Next op
  unfolding entry_of IsCommand
  change_valid (command.AddPrinc c) op is a e = at (command.AddPrinc c) op (PutPrinc (added s call c))
      (of_some (PutPrinc (added s call c)) op e) a (add_valid_princ c)
  change_valid (command.ModPrinc c) op is a e =
      let m = mapped (λ q. PutPrinc (modified s call c q)) (princ_named (printed c.name) s.princs) op e in
      at (command.ModPrinc c) op (PutPrinc (modified s call c m.0)) m.1.1 a (mod_valid c m.0 m.1.0)
  change_valid (command.ChangeKeys c) op is a e =
      let m = mapped (λ q. PutPrinc (rekeyed s call c q)) (princ_named (printed c.name) s.princs) op e in
      at (command.ChangeKeys c) op (PutPrinc (rekeyed s call c m.0)) m.1.1 a (key_valid c m.0 m.1.0)
  change_valid (command.RenPrinc c) op is a e =
      let m = mapped (λ q. Rename (printed c.name) (renamed s call c q)) (princ_named (printed c.name) s.princs) op e in
      at (command.RenPrinc c) op (Rename (printed c.name) (renamed s call c m.0)) m.1.1 a (ren_valid c m.0 m.1.0)
  change_valid (command.DelPrinc name) op is a e =
      let m = mapped (λ (_ : PlainPrinc). DropPrinc (printed name)) (princ_named (printed name) s.princs) op e in
      subst Next m.1.1 (drop_valid_princ name (one_name s.realm name a.unprotected))
  change_valid (command.PurgeKeys c) op is a e =
      let m = mapped (λ q. PutPrinc (purged s call c q)) (princ_named (printed c.name) s.princs) op e in
      at (command.PurgeKeys c) op (PutPrinc (purged s call c m.0)) m.1.1 a (purge_keys_valid c m.0 m.1.0)
  change_valid (command.SetString c) op is a e =
      let m = mapped _ (princ_named (printed c.name) s.princs) op e in
      subst Next m.1.1 (string_valid c.name _ m.0 m.1.0 (one_name s.realm c.name a.unprotected))
  change_valid (command.DelString c) op is a e =
      let m = mapped _ (princ_named (printed c.name) s.princs) op e in
      subst Next m.1.1 (string_valid c.name _ m.0 m.1.0 (one_name s.realm c.name a.unprotected))
  change_valid (command.AddPolicy p) op is a e = subst Next (of_some (PutPolicy p) op e) (add_policy_valid p is a.room)
  change_valid (command.ModPolicy c) op is a e =
      let m = mapped (λ p. PutPolicy (changed_policy c p)) (policy_named c.name s.policies) op e in
      subst Next m.1.1 (mod_policy_valid c m.0 m.1.0 is)
  change_valid (command.DelPolicy name) op is a e =
      let m = mapped (λ (_ : Rules). DropPolicy name) (policy_named name s.policies) op e in
      subst Next m.1.1 (del_policy_valid name (when_none (nat_lt 0 (users_of name s.princs)) _ a.unused))
  change_valid (command.AddMaster etype) op is a e =
      let newest = chained _ (last_or None s.masters) op e in
      let m = mapped (adds_master s (new_master (new_etype etype newest.0) call.random s.masters))
      (princ_named (master_name s.realm) s.princs) op newest.1.1 in
      subst Next m.1.1 (add_master_valid (new_etype etype newest.0) m.0 m.1.0)
  change_valid (command.UseMaster c) op is a e =
      let m = mapped (uses_version s c.version (use_secs s call c)) (princ_named (master_name s.realm) s.princs) op e in
      subst Next m.1.1 (use_master_valid c m.0 m.1.0 (when_none (is_none (master_of s.masters c.version)) _ a.known)
      (when_none (is_none (active (used_activations s call c) (secs_of s call))) _ a.active))
  change_valid command.PurgeMasters op is a e =
      let m = mapped (purges_masters s (secs_of s call)) (princ_named (master_name s.realm) s.princs) op
      (dead_change (dead_versions s (secs_of s call)) _ op e) in
      subst Next m.1.1 (purge_valid (moment_of s call) s m.0 f m.1.0)
  change_valid (command.GetPrinc name) op is a e = absurd cc
  change_valid (command.ListPrincs glob) op is a e = absurd cc
  change_valid (command.GetStrings name) op is a e = absurd cc
  change_valid (command.Extract name) op is a e = absurd cc
  change_valid (command.GetPolicy name) op is a e = absurd cc
  change_valid command.ListPolicies op is a e = absurd cc
  change_valid command.GetPrivs op is a e = absurd cc
  change_valid command.ListMasters op is a e = absurd cc
  change_valid (command.RekeyPrincs glob) op is a e = absurd cc
  change_valid command.Stash op is a e = absurd cc
  change_valid command.Dump op is a e = absurd cc
