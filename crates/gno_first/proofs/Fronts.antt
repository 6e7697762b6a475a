-- The front of a list whose items pass a test.
use Rattle.std.proofs.lemmas.List.Sums.{prefix_len-drop_yes, prefix_len-drop_no, prefix_len-drop_all, prefix_len-le-length}

pub ruleset steps = (prefix_len-drop_yes, prefix_len-drop_no, prefix_len-drop_all, prefix_len-le-length)
