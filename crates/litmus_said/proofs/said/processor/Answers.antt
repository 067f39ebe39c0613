use Rattle.litmus_said.proofs.Saying.{says-above, says-processor}
use Rattle.litmus_said.proofs.said.processor.Goals as goal

pub returns-then-v-ge-PROCESSORS : goal.returns-then-v-ge-PROCESSORS
returns-then-v-ge-PROCESSORS c =
    says-above _ c.value_of-v.result c.value_of-v.ensures.0 c.if-v-ge-PROCESSORS.true

pub returns : goal.returns
returns c =
    says-processor _ c.value_of-v.result c.value_of-v.ensures.0 c.if-v-ge-PROCESSORS.false
