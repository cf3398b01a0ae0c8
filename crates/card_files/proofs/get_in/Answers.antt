-- One answer of the definition for each way through the tests. Assumes nothing.
use Rattle.std.proofs.Common.{◌≡◌, sym, ◌∙◌}
use Rattle.std.proofs.lemmas.Result.{err_from_is_err_and}
use Rattle.directory.proofs.DirectoryLaws.{entries-length}
use Rattle.card.specs.declared.Refusal.TheVariants.{NoFile}
use Rattle.card.proofs.LineLaws.{found_lt}
use Rattle.card.proofs.ReadLaws.{got-name, got-none, got-found}
use Rattle.card_files.proofs.get_in.Goals as goal

pub returns-then-not-good_name : goal.returns-then-not-good_name
returns-then-not-good_name c = got-name _ _ _ _ _ c.if-not-good_name.ensures

pub returns-in_err-j : goal.returns-in_err-j
returns-in_err-j c =
    let p = err_from_is_err_and c.from_residual.result c.from_residual.ensures.1 in
    let k : c.in_err-j.field-0.0 ≡ NoFile = cc (rw c.in_err-j.ensures.ok_part at c.in_err-j.ensures.value) in
    rw (p.1, p.2, k) (got-none _ _ _ _ _ c.if-not-good_name.ensures (sym c.find_name.ensures ∙ c.in_err-j.ensures.ok_part))

pub get_at-requires : goal.get_at-requires
get_at-requires c = (c.requires.0, (found_lt _ _ _ _ c.find_name.ensures c.in_ok-j.ensures.ok_part (entries-length _ _), c.requires.1))

pub returns : goal.returns
returns c = got-found _ _ _ _ _ c.if-not-good_name.ensures _ (sym c.find_name.ensures ∙ c.in_ok-j.ensures.ok_part) c.get_at.ensures
