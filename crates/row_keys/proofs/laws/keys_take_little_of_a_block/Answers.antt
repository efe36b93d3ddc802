use Rattle.row_keys.proofs.Blocks.{drawn_taken, few_taken, kept_taken}
use Rattle.row_keys.proofs.laws.keys_take_little_of_a_block.Goals as goal

pub returns-clause-kept : goal.returns-clause-kept
returns-clause-kept c = kept_taken

pub returns-clause-few : goal.returns-clause-few
returns-clause-few c = few_taken

pub returns-clause-drawn : goal.returns-clause-drawn
returns-clause-drawn c = drawn_taken
