pub mod MachineView
pub mod StepAnswers
