-- The master keys without some versions, as MIT's kdb5_util purge_mkeys leaves them.
use Rattle.std.specs.Prelude.{ℕ, List, filter, option_map}
use Rattle.kdb_base.specs.declared.versions.Master.{Master}
use Rattle.princ_record.specs.declared.facts.ChainPart.{ChainPart}
use Rattle.princ_record.specs.declared.princs.Princ.{Princ}
use Rattle.master_keys.specs.Versions.{is_live}

-- the master keys of other versions
unfoldable pub live_masters : List ℕ → List Master → List Master
live_masters dead masters = filter (λ m. is_live dead m.version) masters

-- the activations and the auxiliary keys of other versions
unfoldable pub live_part : List ℕ → ChainPart → ChainPart
live_part dead part = record {
  activations = filter (λ a. is_live dead a.version) part.activations;
  aux = filter (λ a. is_live dead a.version) part.aux;
}

-- the record with the keys, the activations and the auxiliary keys of other versions, and all else as it was
unfoldable pub purged_record : List ℕ → Princ → Princ
purged_record dead entry = record entry {
  keys = filter (λ k. is_live dead k.kvno) entry.keys;
  chain = option_map (live_part dead) entry.chain;
}
