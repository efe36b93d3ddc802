-- What is opened, in a state that the rows show.
use Rattle.std.proofs.Common.{◌≡◌, ℕ, List, Option, Some, None, refl, sym, subst, ◌∙◌}
use Rattle.std.specs.Prelude.{option_and_then}
use Rattle.std.specs.List.{AllZip}
use Rattle.command_plans.proofs.RenamedFits.{row_fits}
use Rattle.command_plans.specs.declared.given.Given.{Given}
use Rattle.kdb_base.specs.Key.{Key}
use Rattle.kdb_base.specs.declared.versions.Master.{Master}
use Rattle.kdb_plain.specs.States.{first_key, history_name, master_of, princ_named}
use Rattle.kdb_plain.specs.declared.princs.PlainPrinc.{PlainPrinc}
use Rattle.key_activation.specs.Activations.{active}
use Rattle.key_plans.specs.Opening.{IsActiveMaster, IsHistoryKey, IsOpened, active_by}
use Rattle.master_keys.specs.First.{master_name}
use Rattle.plain_keys.specs.declared.items.PlainItem.{PlainItem}
use Rattle.princ_record.specs.Facts.{IsChainOr}
use Rattle.princ_record.specs.declared.facts.ChainPart.{ChainPart}
use Rattle.princ_record.specs.declared.princs.Princ.{Princ}
use Rattle.princ_rows.specs.Rows.{AreRows}
use Rattle.row_keys.proofs.Judgements.{same_key}
use Rattle.row_keys.proofs.Names.{found_alike}
use Rattle.row_keys.proofs.OneState.{history_entry}
use Rattle.row_keys.proofs.Sides.{both_beside_left}
use Rattle.row_keys.specs.Lookups.{record_named}
use Rattle.row_keys.specs.Shows.{ShowsItem, ShowsPrinc, ShowsUnder}
use Rattle.serving_versions.proofs.LatestKept.{active_holds}
use Rattle.tagged_data.specs.Numbers.{IsVersion}

-- ---- the history key

-- what is opened of a record is the history key, where the record is that of kadmin/history
abbrev pub OpensFirst : List Master → Princ → Key → Type 0
OpensFirst masters p found =
    (master : Key) (plain : List PlainItem) (key : Key) → master_of masters p.mkvno ≡ Some master
    → AllZip (ShowsItem master) p.keys plain → first_key plain ≡ Some key → found ≡ key

some_princ : (a b : Princ) → ◌≡◌ {A = Option Princ} (Some a) (Some b) → a ≡ b
some_princ a b e = cc

pub history_found : (g : Given) (p : Princ) (key : Key)
    → record_named (history_name g.realm.now) g.rows.now.princs ≡ Some p → OpensFirst g.masters.now p key
    → IsHistoryKey g key
history_found g p key there opens = λ history princs shown is.
    let h = history_entry g.realm.now princs history is in
    let b = both_beside_left (ShowsPrinc g.masters.now history)
    (record_named (history_name g.realm.now) g.rows.now.princs) (princ_named (history_name g.realm.now) princs) h.entry
    (found_alike g.masters.now history g.rows.now.princs princs shown (history_name g.realm.now)) h.there in
    let same : b.other ≡ p = some_princ b.other p (sym b.there ∙ there) in
    let f = subst (λ (r : Princ). ShowsPrinc g.masters.now history r h.entry) same b.beside in
    opens f.master h.entry.keys history f.named f.under.keys h.first

-- ---- a principal

pub opened_is : (masters : List Master) (history : Key) (p : Princ) (q other : PlainPrinc)
    → IsOpened masters history p q → ShowsPrinc masters history p other → q ≡ other
opened_is masters history p q other o f =
    o.only other
    (subst (λ (m : Key). ShowsUnder m history p other) (same_key f.master o.master (sym f.named ∙ o.named)) f.under)

-- ---- the active version

version_by : (o : Option ChainPart) (secs version : ℕ) → IsChainOr o
    → option_and_then (λ (part : ChainPart). active part.activations secs) o ≡ Some version → IsVersion version
version_by None secs version f e = absurd cc
version_by (Some part) secs version f e =
    active_holds IsVersion part.activations secs version (λ i d lt. (f.activations.each i d lt).version) e

version_of : (rows : List Princ) (entry : Option Princ) (secs version : ℕ)
    → ((p : Princ) → entry ≡ Some p → IsChainOr p.chain) → active_by entry secs ≡ Some version → IsVersion version
version_of rows None secs version f e = absurd cc
version_of rows (Some p) secs version f e = version_by p.chain secs version (f p refl) e

pub active_short : (g : Given) (m : Master) → AreRows g.rows.now → IsActiveMaster g m → IsVersion m.version
active_short g m rows a =
    version_of g.rows.now.princs (record_named (master_name g.realm.now) g.rows.now.princs) g.moment.secs m.version
    (λ p there. (row_fits (master_name g.realm.now) g.rows.now p rows there).facts.chain) a.active_is
