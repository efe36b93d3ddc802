use Rattle.std.proofs.Common.{sym, ◌∙◌}
use Rattle.princ_name.proofs.MasterName.{master_tested, tested_master}
use Rattle.princ_name.proofs.printed.is_master.Goals as goal

pub returns-clause-master : goal.returns-clause-master
returns-clause-master c = λ name is same. (
  λ e. master_tested name c.args.text.now is same (sym c.begins_as_master.ensures ∙ e),
  λ own. c.begins_as_master.ensures ∙ tested_master name c.args.text.now same own,
)
