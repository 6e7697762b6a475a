mod OneOperand
