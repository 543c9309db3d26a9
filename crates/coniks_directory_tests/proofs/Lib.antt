mod RunSteps
