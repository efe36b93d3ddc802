-- What K/M's record tells of a state that the rows show.
use Rattle.std.proofs.Common.{◌≡◌, map, reverse, Option, Some, sym, ap, subst, ◌∙◌}
use Rattle.command_plans.specs.Given.{IsGiven}
use Rattle.command_plans.specs.declared.given.Given.{Given}
use Rattle.command_plans.proofs.Rooms.{found_holds}
use Rattle.kadm_commands.specs.declared.commands.Command.{Command}
use Rattle.kdb_model.specs.Calls.{Call}
use Rattle.kdb_plain.specs.Changes.{name_of}
use Rattle.kdb_plain.specs.States.{master_in, princ_named}
use Rattle.kdb_plain.specs.declared.princs.PlainPrinc.{PlainPrinc}
use Rattle.kdb_plain.specs.declared.states.State.{State}
use Rattle.master_keys.specs.First.{master_name}
use Rattle.mkey_admin.specs.Plans.{IsEntry}
use Rattle.princ_rows.specs.EntryLaws.{same_bytes}
use Rattle.princ_record.specs.RowLimits.{IsRow}
use Rattle.princ_record.specs.declared.facts.ChainPart.{ChainPart}
use Rattle.princ_record.specs.declared.princs.Princ.{Princ}
use Rattle.row_keys.proofs.Judgements.{same_entry, same_part}
use Rattle.row_keys.proofs.Names.{found_alike}
use Rattle.row_keys.proofs.Sides.{both_beside}
use Rattle.row_keys.proofs.Whole.{find_there}
use Rattle.row_keys.specs.Lookups.{has_name, record_named}
use Rattle.row_keys.specs.Shows.{ShowsChain, ShowsPrinc}
use Rattle.row_keys.specs.Sides.{IsBeside}
use Rattle.serving_versions.proofs.Places.{named_so}

-- ---- the record

module _ (g : Given) (p : Princ) (is : IsEntry g p) where
  pub entry_row : IsRow p
  unfolding record_named
  entry_row = found_holds IsRow (has_name (master_name g.realm.now)) g.rows.now.princs p is.there is.rows.princs

  pub entry_name : p.name ≡ master_name g.realm.now
  unfolding record_named
  entry_name = same_bytes p.name (master_name g.realm.now)
      (find_there (has_name (master_name g.realm.now)) g.rows.now.princs p is.there).1

-- ---- in a state

module _ (g : Given) (cmd : Command) (p : Princ) (is : IsEntry g p) (s : State) (call : Call)
    (given : IsGiven g cmd s call) where
  pub there : record_named (master_name s.realm) g.rows.now.princs ≡ Some p
  there = ap (λ r. record_named (master_name r) g.rows.now.princs) given.seen.realm_is ∙ is.there

  -- K/M of the state
  pub own : IsBeside (ShowsPrinc s.masters given.seen.shows.history) p (princ_named (master_name s.realm) s.princs)
  own =
      both_beside (ShowsPrinc s.masters given.seen.shows.history) (record_named (master_name s.realm) g.rows.now.princs)
      (princ_named (master_name s.realm) s.princs) p
      (found_alike s.masters given.seen.shows.history g.rows.now.princs s.princs given.seen.shows.princs
      (master_name s.realm)) there

  pub own_name : own.other.name ≡ master_name s.realm
  unfolding princ_named
  own_name = named_so name_of (master_name s.realm) s.princs own.other own.there

  pub own_chain : ShowsChain s.masters s.activations p
  own_chain = subst (λ (e : Princ). ShowsChain s.masters s.activations e)
      (same_entry given.seen.shows.entry p (sym given.seen.shows.there ∙ there)) given.seen.shows.chain

  pub own_keys : map master_in own.other.keys ≡ reverse s.masters
  own_keys = ap (λ (q : PlainPrinc). map master_in q.keys) (same_plain own.other given.seen.valid.masters.entry
      (sym own.there ∙ given.seen.valid.masters.there)) ∙ given.seen.valid.masters.keys
    where
      same_plain : (a b : PlainPrinc) → ◌≡◌ {A = Option PlainPrinc} (Some a) (Some b) → a ≡ b
      same_plain a b e = cc

  pub own_activations : (part : ChainPart) → p.chain ≡ Some part → part.activations ≡ s.activations
  own_activations part e =
      ap (λ (c : ChainPart). c.activations) (same_part part own_chain.part (sym e ∙ own_chain.part_is))
      ∙ own_chain.activations_are
