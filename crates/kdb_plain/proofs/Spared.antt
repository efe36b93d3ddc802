-- What changes of other principals leave.
use Rattle.std.proofs.Common.{◌≡◌, ◌≢◌, ℕ, List, refl, sym, ◌∙◌}
use Rattle.master_keys.specs.First.{master_name}
use Rattle.kdb_plain.specs.Changes.{Spares, drop_princ, effect_on, name_of}
use Rattle.kdb_plain.specs.declared.changes.PlainOp.{PlainOp}
use Rattle.kdb_plain.specs.declared.changes.PlainOp.TheVariants.{PutPrinc, DropPrinc, Rename}
use Rattle.kdb_plain.specs.declared.changes.PlainOp.TheVariants.{PutPolicy, DropPolicy, PutMasters}
use Rattle.kdb_plain.specs.States.{history_name, princ_named}
use Rattle.kdb_plain.specs.declared.states.State.{State}
use Rattle.kdb_plain.proofs.Named.{put_other, drop_other}

pub master_spared : (s : State) (op : PlainOp) → Spares s.realm op
    → princ_named (master_name s.realm) (effect_on op s).princs ≡ princ_named (master_name s.realm) s.princs
unfolding effect_on princ_named
master_spared s (PutPrinc q) h = put_other name_of (master_name s.realm) q s.princs (λ e. h.other_than_master (sym e))
master_spared s (DropPrinc name) h =
    drop_other name_of (master_name s.realm) name s.princs (λ e. h.other_than_master (sym e))
master_spared s (Rename old q) h =
    put_other name_of (master_name s.realm) q (drop_princ old s).princs (λ e. h.1.other_than_master (sym e))
    ∙ drop_other name_of (master_name s.realm) old s.princs (λ e. h.0.other_than_master (sym e))
master_spared s (PutPolicy p) h = refl
master_spared s (DropPolicy name) h = refl
master_spared s (PutMasters q masters activations) h = absurd h

pub history_spared : (s : State) (op : PlainOp) → Spares s.realm op
    → princ_named (history_name s.realm) (effect_on op s).princs ≡ princ_named (history_name s.realm) s.princs
unfolding effect_on princ_named
history_spared s (PutPrinc q) h =
    put_other name_of (history_name s.realm) q s.princs (λ e. h.other_than_history (sym e))
history_spared s (DropPrinc name) h =
    drop_other name_of (history_name s.realm) name s.princs (λ e. h.other_than_history (sym e))
history_spared s (Rename old q) h =
    put_other name_of (history_name s.realm) q (drop_princ old s).princs (λ e. h.1.other_than_history (sym e))
    ∙ drop_other name_of (history_name s.realm) old s.princs (λ e. h.0.other_than_history (sym e))
history_spared s (PutPolicy p) h = refl
history_spared s (DropPolicy name) h = refl
history_spared s (PutMasters q masters activations) h = absurd h

pub masters_spared : (s : State) (op : PlainOp) → Spares s.realm op → (effect_on op s).masters ≡ s.masters
unfolding effect_on
masters_spared s (PutPrinc q) h = refl
masters_spared s (DropPrinc name) h = refl
masters_spared s (Rename old q) h = refl
masters_spared s (PutPolicy p) h = refl
masters_spared s (DropPolicy name) h = refl
masters_spared s (PutMasters q masters activations) h = absurd h

pub activations_spared : (s : State) (op : PlainOp) → Spares s.realm op → (effect_on op s).activations ≡ s.activations
unfolding effect_on
activations_spared s (PutPrinc q) h = refl
activations_spared s (DropPrinc name) h = refl
activations_spared s (Rename old q) h = refl
activations_spared s (PutPolicy p) h = refl
activations_spared s (DropPolicy name) h = refl
activations_spared s (PutMasters q masters activations) h = absurd h
