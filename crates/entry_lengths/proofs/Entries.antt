-- An entry is as long as is told of the state.
use Rattle.std.proofs.Common.{◌≡◌, ℕ, ◌+◌, false, List, length, Option, Some, None, refl, ap, ◌∙◌, arith}
use Rattle.std.specs.Prelude.{is_some}
use Rattle.command_plans.proofs.Puts.{len_is}
use Rattle.command_plans.specs.Given.{IsApplied}
use Rattle.entry_lengths.proofs.Others.{IsOther, entry_is_other}
use Rattle.entry_lengths.specs.Lengths.{entry_len_in}
use Rattle.kadm_commands.specs.Commands.{IsCommand}
use Rattle.kdb_base.specs.Key.{Key}
use Rattle.kdb_model.specs.Calls.{Call}
use Rattle.kdb_model.specs.Entries.{entry}
use Rattle.kdb_model.specs.Refusals.{len_in, refusal}
use Rattle.kdb_plain.specs.States.{history_key}
use Rattle.kdb_plain.specs.declared.changes.PlainOp.{PlainOp}
use Rattle.kdb_plain.specs.declared.changes.PlainOp.TheVariants.{PutPrinc, DropPrinc, Rename}
use Rattle.kdb_plain.specs.declared.changes.PlainOp.TheVariants.{PutPolicy, DropPolicy, PutMasters}
use Rattle.kdb_plain.specs.declared.princs.PlainPrinc.{PlainPrinc}
use Rattle.kdb_plain.specs.declared.states.State.{State}
use Rattle.mkey_admin.proofs.MasterPuts.{master_len_is}
use Rattle.policy_rules.specs.Rules.{Rules}
use Rattle.princ_rows.specs.Entries.{IsOp, entry_len, key_of, row_of}
use Rattle.princ_rows.specs.declared.entries.Op.{Op}
use Rattle.princ_rows.specs.declared.entries.Op.TheVariants as op
use Rattle.princ_name.specs.Printed.{is_master}
use Rattle.princ_name.specs.Realms.{IsRealm}
use Rattle.princ_record.specs.Policies.{policy}
use Rattle.princ_record.specs.Princs.{princ}
use Rattle.princ_record.specs.RowLimits.{IsRow}
use Rattle.princ_record.specs.declared.facts.ChainPart.{ChainPart}
use Rattle.princ_record.specs.declared.princs.Princ.{Princ}
use Rattle.princ_rows.specs.Rows.{RowLists}
use Rattle.row_keys.specs.ShownChanges.{ShowsOp}
use Rattle.row_keys.specs.Shows.{Shows, ShowsPrinc}

pub no_chain : (o : Option ChainPart) → is_some o ≡ false → o ≡ None
no_chain None e = refl
no_chain (Some part) e = absurd cc

module _ (s : State) (history : Key) (is : history_key s.realm s.princs ≡ Some history) where
  -- a record without K/M's chain
  row_told : (p : Princ) (q : PlainPrinc) → ShowsPrinc s.masters history p q → IsRow p → is_master q.name ≡ false
      → len_in s q ≡ length (princ p)
  row_told p q f row other =
      let name : p.name ≡ q.name = ap (λ (h : Princ). h.name) f.under.fields in
      len_is s history p q is f (no_chain p.chain (row.fits.facts.chain_there ∙ ap is_master name ∙ other))

  put_told : (p : Princ) (q : PlainPrinc) (old new : List ℕ) → old ≡ new → ShowsPrinc s.masters history p q → IsRow p
      → is_master q.name ≡ false
      → 21 + length old + length (princ p) ≡ 21 + length new + len_in s q
  put_told p q old new same f row other = omega (arith, ap (λ (n : List ℕ). length n) same, row_told p q f row other)

  dropped : (name other : List ℕ) → name ≡ other → 21 + length name + 0 ≡ 21 + length other
  dropped name other same = omega (arith, ap (λ (n : List ℕ). length n) same)

  entry_long : (o : Op) (plain : PlainOp) → ShowsOp s.masters history o plain → IsOp (Some o) → IsOther plain
      → entry_len (Some o) ≡ entry_len_in s plain
  unfolding key_of row_of entry_len_in
  entry_long (op.PutPrinc p) (PutPrinc q) h fits other =
      put_told p q p.name q.name (ap (λ (x : Princ). x.name) h.under.fields) h fits other
  entry_long (op.PutPrinc p) (DropPrinc l) h fits other = absurd h
  entry_long (op.PutPrinc p) (Rename l q) h fits other = absurd h
  entry_long (op.PutPrinc p) (PutPolicy q) h fits other = absurd h
  entry_long (op.PutPrinc p) (DropPolicy l) h fits other = absurd h
  entry_long (op.PutPrinc p) (PutMasters q kept activations) h fits other =
      let name : length p.name ≡ length q.name = ap (λ (x : Princ). length x.name) h.0.under.fields in
      omega (arith, name, master_len_is s history p q kept activations is h.0 h.1)
  entry_long (op.DropPrinc k) (PutPrinc q) h fits other = absurd h
  entry_long (op.DropPrinc k) (DropPrinc l) h fits other = dropped k l h
  entry_long (op.DropPrinc k) (Rename l q) h fits other = absurd h
  entry_long (op.DropPrinc k) (PutPolicy q) h fits other = absurd h
  entry_long (op.DropPrinc k) (DropPolicy l) h fits other = absurd h
  entry_long (op.DropPrinc k) (PutMasters q kept activations) h fits other = absurd h
  entry_long (op.Rename k p) (PutPrinc q) h fits other = absurd h
  entry_long (op.Rename k p) (DropPrinc l) h fits other = absurd h
  entry_long (op.Rename k p) (Rename l q) h fits other = put_told p q k l h.0 h.1 fits.1 other
  entry_long (op.Rename k p) (PutPolicy q) h fits other = absurd h
  entry_long (op.Rename k p) (DropPolicy l) h fits other = absurd h
  entry_long (op.Rename k p) (PutMasters q kept activations) h fits other = absurd h
  entry_long (op.PutPolicy p) (PutPrinc q) h fits other = absurd h
  entry_long (op.PutPolicy p) (DropPrinc l) h fits other = absurd h
  entry_long (op.PutPolicy p) (Rename l q) h fits other = absurd h
  entry_long (op.PutPolicy p) (PutPolicy q) h fits other = ap (λ (x : Rules). 21 + length x.name + length (policy x)) h
  entry_long (op.PutPolicy p) (DropPolicy l) h fits other = absurd h
  entry_long (op.PutPolicy p) (PutMasters q kept activations) h fits other = absurd h
  entry_long (op.DropPolicy k) (PutPrinc q) h fits other = absurd h
  entry_long (op.DropPolicy k) (DropPrinc l) h fits other = absurd h
  entry_long (op.DropPolicy k) (Rename l q) h fits other = absurd h
  entry_long (op.DropPolicy k) (PutPolicy q) h fits other = absurd h
  entry_long (op.DropPolicy k) (DropPolicy l) h fits other = dropped k l h
  entry_long (op.DropPolicy k) (PutMasters q kept activations) h fits other = absurd h

-- a change that is accepted, of rows and of the state that they show
pub entry_told : (rows : RowLists) (s : State) (call : Call) (o : Op) (plain : PlainOp) → refusal s call ≡ None
    → entry s call ≡ Some plain
    → ((history : Key) → history_key s.realm s.princs ≡ Some history → ShowsOp s.masters history o plain)
    → Shows rows s → IsApplied rows o → IsRealm s.realm → IsCommand s.realm call.command
    → entry_len (Some o) ≡ entry_len_in s plain
entry_told rows s call o plain accepted e shown shows applied realm own =
    entry_long s shows.history shows.history_is o plain (shown shows.history shows.history_is) applied.spelled
    (entry_is_other s call realm plain accepted e own)
