use Rattle.std.proofs.Common.{◌≡◌, sym, subst}
use Rattle.bril_tree.specs.declared.numbered.Instr.TheVariants.{Act}
use Rattle.constant_pass.specs.constants.Answer.{answer}
use Rattle.constant_pass.specs.constants.Kept.{kept}
use Rattle.constant_pass.proofs.constants.answer.operation_answer.Goals as goal

pub returns-in-Get : goal.returns-in-Get
returns-in-Get c = λ funcs labels. subst (λ o. c.get_answer.result ≡ answer (kept c.args.known.now) (Act c.args.dest c.args.ty o c.args.args.now funcs labels)) (sym c.in-Get.is) (c.get_answer.ensures funcs labels)
